-- What private functions, here and in the writer, hand on; nobody has to believe it. Assumes nothing.
use Rattle.std.specs.Prelude.{ℕ, zero, suc, ◌+◌, ◌%◌, ◌≤◌, List, ◌≡◌, length}
use Rattle.words.specs.Decide.{first}
use Rattle.packet.specs.Layout.{most_parts}
use Rattle.packet.specs.Entries.{entry_words, room, offset_at, size_at, is_outside, taken}
use Rattle.packet.specs.Wire.{size_of}
use Rattle.packet_check.specs.Checks.{first_outside, first_too_large}

-- the first entry outside an area of so many bytes
abbrev pub outside_of : ℕ → List ℕ → ℕ
outside_of given table = first (λ (i : ℕ). is_outside given (offset_at table i) (size_at table i)) (room table)

-- the parts of a table can be represented on the wire
abbrev pub Small : List ℕ → Type 0
Small table = (room table ≤ most_parts) × (room table ≤ first_too_large table)

-- the bytes that k parts take, from part i on
unfoldable pub taken_from : List ℕ → ℕ → ℕ → ℕ
taken_from table i zero = 0
taken_from table i (suc k) = taken (offset_at table i) (size_at table i) + taken_from table (i + 1) k

-- the bytes of a packet of this type with the parts of a table
abbrev pub size_by : ℕ → List ℕ → ℕ
size_by type table = size_of type (room table) (taken_from table 0 (room table))

-- what a table that passes the checks is
pub record Passes (area table : List ℕ) : Type 0 where
  pub whole : length table % entry_words ≡ 0
  pub inside : room table ≤ first_outside area table
  pub few : room table ≤ most_parts
  pub small : room table ≤ first_too_large table
