-- What the packet reader accepts is exactly this: a front that the layout describes, each checksum word 0 or its
-- stretch's checksum, within the limits and the room. Assumes nothing.
use Rattle.std.specs.Prelude.{ℕ, ◌≤◌, ◌<◌, min, true, false, List, ◌≡◌, ◌⊎◌, length}
use Rattle.words.specs.Answer.{accepted}
use Rattle.words.specs.Decide.{pick}
use Rattle.crc64.specs.Polynomial.{checksum}
use Rattle.packet.specs.Layout.{packet_signature, null_size, largest_part, most_parts, last_type, fixed_header_size, has_variable_header, headers, signature, type, count, fixed_sum, fixed_fields, fields, size, part_sum, variable, variable_sum, whole, part}
use Rattle.packet.specs.Mode.{is_retired}
use Rattle.packet_read.specs.Reading.{Limits, reading}

-- a checksum word that is 0, or its stretch's checksum
abbrev pub Guards : ℕ → List ℕ → Type 0
Guards stored bytes = (stored ≡ 0) ⊎ (stored ≡ checksum bytes)

-- the fixed header
pub record FixedHeader (s : List ℕ) (limits : Limits) : Type 0 where
  pub there : fixed_header_size ≤ length s
  pub signed : signature s ≡ packet_signature
  pub known : type s ≤ last_type
  pub current : is_retired limits.mode (type s) ≡ false
  pub guarded : Guards (fixed_sum s) (fixed_fields s)
  pub few : count s ≤ min most_parts limits.parts

-- the variable header and the parts, of which there are n
pub record VariableHeader (s : List ℕ) (n : ℕ) (limits : Limits) : Type 0 where
  pub short : headers n ≤ limits.bytes
  pub headers_there : headers n ≤ length s
  pub guarded : Guards (variable_sum s n) (variable s n)
  pub sizes : (i : ℕ) → i < n → (size s i ≡ null_size → ⊥) → size s i ≤ largest_part
  pub within : whole s n ≤ limits.bytes
  pub there : whole s n ≤ length s
  pub parts : (i : ℕ) → i < n → (size s i ≡ null_size → ⊥) → Guards (part_sum s n i) (part s n i)
  pub roomy : n ≤ limits.room

-- a packet without a variable header is taken whatever the byte limit
abbrev pub Acceptable : List ℕ → Limits → Type 0
Acceptable s limits =
    FixedHeader s limits × (has_variable_header (type s) (count s) ≡ true → VariableHeader s (count s) limits)

-- the bytes that an accepted packet takes
abbrev pub consumed : List ℕ → ℕ
consumed s = pick (has_variable_header (type s) (count s)) (whole s (count s)) fixed_header_size

-- acceptance: the reader accepts exactly what is acceptable, with the fields that stand there, and consumes just the
-- packet
abbrev pub Acceptance : Type 0
Acceptance =
    (s : List ℕ) (limits : Limits)
    → (Acceptable s limits → reading s limits ≡ accepted (consumed s) (fields s))
    × ((n : ℕ) (f : List ℕ) → reading s limits ≡ accepted n f → Acceptable s limits × (n ≡ consumed s) × (f ≡ fields s))
