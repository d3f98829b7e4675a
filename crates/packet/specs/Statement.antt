-- What each public function promises, by name. A lent area or table is read, and left as it was. Assumes nothing.
use Rattle.std.specs.Prelude.{ℕ, ◌+◌, ◌<◌, Bool, List, Option, Some, None, ◌≡◌}
use Rattle.std.specs.Int.Bits.{bit_and}
use Rattle.words.specs.Decide.{◌=?◌}
use Rattle.words.specs.Paper.{Tells}
use Rattle.words.specs.declared.outcome.Outcome.{Outcome}
use Rattle.packet.specs.declared.PacketType.{PacketType}
use Rattle.packet.specs.declared.Mode.{Mode}
use Rattle.packet.specs.declared.PacketFlags.{PacketFlags}
use Rattle.packet.specs.declared.PacketError.{PacketError}
use Rattle.packet.specs.Layout.{last_type, has_variable_header}
use Rattle.packet.specs.Mode.{is_retired}
use Rattle.packet.specs.Paper.{type_number, refusal}
use Rattle.packet.specs.Entries.{is_null, is_outside, lent_at, lent_from}

abbrev pub NumbersType : PacketType → ℕ → Type 0
NumbersType type r = r ≡ type_number type

-- the type with this number, or none where it is above the last
abbrev pub FindsType : ℕ → Option PacketType → Type 0
FindsType n (Some type) = type_number type ≡ n
FindsType n None = last_type < n

-- the refusal in words
abbrev pub Refuses : PacketError → ℕ → Outcome → Type 0
Refuses error consumed r = Tells (refusal error consumed) r

abbrev pub TellsRetired : Mode → PacketType → Bool → Type 0
TellsRetired mode type r = r ≡ is_retired mode (type_number type)

-- whether a packet of this type and of n parts has a variable header
abbrev pub TellsVariableHeader : PacketType → ℕ → Bool → Type 0
TellsVariableHeader type n r = r ≡ has_variable_header (type_number type) n

-- each bit of `other` is set in `flags`
abbrev pub Contains : PacketFlags → PacketFlags → Bool → Type 0
Contains flags other r = r ≡ (bit_and flags.0 other.0 =? other.0)

abbrev pub TellsNull : ℕ → ℕ → Bool → Type 0
TellsNull offset size r = r ≡ is_null offset size

abbrev pub TellsOutside : ℕ → ℕ → ℕ → Bool → Type 0
TellsOutside given offset size r = r ≡ is_outside given offset size

-- r is part i's stretch of the input, and lies in it: an input that lies at `from`, a block and an offset in it, lends
-- it at `at`
pub record LendsPart (input table : List ℕ) (i : ℕ) (from : ℕ × ℕ) (r : List ℕ) (at : ℕ × ℕ) : Type 0 where
  pub bytes : r ≡ lent_at input table i
  pub block : at.0 ≡ from.0
  pub offset : at.1 ≡ from.1 + lent_from input table i
