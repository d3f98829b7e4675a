-- What the reader hands back, part by part: the lent table of an accepted packet names a null part exactly where the
-- packet has one, and `part` lends each part's bytes, where they lie in the input. Assumes nothing.
use Rattle.std.specs.Prelude.{ℕ, ◌+◌, ◌^◌, ◌≤◌, ◌<◌, true, false, List, [], ◌++◌, ◌⊎◌, ◌≡◌, length, get_or, take, Some, None, Ok}
use Rattle.words.specs.Buffer.{stretch}
use Rattle.guid.specs.declared.Guid.{Guid}
use Rattle.guid.specs.Guid.{Fitting}
use Rattle.packet.specs.Layout.{count, size, start}
use Rattle.packet.specs.Layout.{is_null}
use Rattle.packet.specs.Entries.{room}
use Rattle.packet.specs.declared.Mode.{Mode}
use Rattle.packet.specs.declared.PacketType.{PacketType}
use Rattle.packet.specs.declared.PacketFlags.{PacketFlags}
use Rattle.packet.specs.declared.Packet.{Packet}
use Rattle.packet_answer.specs.Paper.{Decoded}
use Rattle.packet_read.specs.Reading.{Limits}
use Rattle.packet_read.specs.Statement.{Decodes}
use Rattle.packet.specs.Entries.{null_at, outside_at}
use Rattle.packet.specs.Statement.{LendsPart}
use Rattle.packet.specs.Wire.{Part, null, bytes, parts_of}
use Rattle.packet_write.specs.Statement.{Encodes}
use Rattle.promises.specs.RoundTrip.{Held, given}

module _ (s table : List ℕ) (i : ℕ) where
  -- `part` lends the empty stretch at the front, wherever the input lies
  abbrev pub LendsFront : Type 0
  LendsFront = (from : ℕ × ℕ) (b : List ℕ) (at : ℕ × ℕ) → LendsPart s table i from b at → (b ≡ []) × (at ≡ from)

  -- `part` lends the n bytes that stand at `place`, and it lends them there
  abbrev pub LendsStretch : ℕ → ℕ → Type 0
  LendsStretch place n =
      (from : ℕ × ℕ) (b : List ℕ) (at : ℕ × ℕ) → LendsPart s table i from b at
      → (b ≡ stretch s place n) × (at.0 ≡ from.0) × (at.1 ≡ from.1 + place)

-- the parts of an accepted packet: nulls as nulls, and any other where it stands
abbrev pub PartsAreLent : Type 0
PartsAreLent =
    (s : List ℕ) (limits : Limits) (table : List ℕ) (packet : Packet) (consumed : ℕ) (filled : List ℕ)
    → limits.room ≡ room table
    → Decodes s limits table (Ok (Some record { packet = packet; consumed = consumed })) filled
    → (packet.parts ≡ count s)
    × ((i : ℕ) → i < count s
    → (is_null s i ≡ true → (null_at filled i ≡ true) × LendsFront s filled i)
    × (is_null s i ≡ false → (null_at filled i ≡ false) × LendsStretch s filled i (start s (count s) i) (size s i)))

-- "a null part, or an i or entry outside the table or input, gives the empty stretch at the front"
abbrev pub FrontIsLent : Type 0
FrontIsLent =
    (s table : List ℕ) (i : ℕ) → (room table ≤ i) ⊎ ((null_at table i ≡ true) ⊎ (outside_at s table i ≡ true))
    → LendsFront s table i

-- what a filled table lends for index i is this part: a null one, or one with these bytes
abbrev pub Lends : List ℕ → List ℕ → ℕ → Part → Type 0
Lends s filled i null = (null_at filled i ≡ true) × LendsFront s filled i
Lends s filled i (bytes b) =
    (null_at filled i ≡ false) × ((from : ℕ × ℕ) (r : List ℕ) (at : ℕ × ℕ) → LendsPart s filled i from r at → r ≡ b)

-- Writing and reading, of the functions: the bytes that `encode` says it wrote, in whichever mode, with any tail, under
-- limits and a table that hold them, are answered by `decode_with` with the packet that was given and just its bytes
-- consumed, and its table lends each part.
abbrev pub WrittenIsLent : Type 0
WrittenIsLent =
    (mode : Mode) (type : PacketType) (flags : PacketFlags) (id : Guid) (area table out : List ℕ)
    (n : ℕ) (after tail : List ℕ) (limits : Limits) (lent : List ℕ) (r : Decoded) (filled : List ℕ)
    → flags.0 < 2 ^ 16 → Fitting id
    → Encodes mode type flags id area table out (Ok n) after
    → limits.room ≡ room lent
    → Held (given type flags id area table) limits
    → Decodes (take n after ++ tail) limits lent r filled
    → (r ≡ Ok (Some record { packet = record { packet_type = type; flags = flags; id = id; parts = length (parts_of area table) }; consumed = n }))
    × ((i : ℕ) → i < length (parts_of area table)
    → Lends (take n after ++ tail) filled i (get_or (parts_of area table) i null))

-- and each strict prefix of them by need-more, the table left as it was
abbrev pub PrefixAsksForMore : Type 0
PrefixAsksForMore =
    (mode : Mode) (type : PacketType) (flags : PacketFlags) (id : Guid) (area table out : List ℕ)
    (n : ℕ) (after : List ℕ) (limits : Limits) (lent : List ℕ) (r : Decoded) (filled : List ℕ) (k : ℕ)
    → flags.0 < 2 ^ 16 → Fitting id
    → Encodes mode type flags id area table out (Ok n) after
    → Held (given type flags id area table) limits
    → k < n
    → Decodes (take k after) limits lent r filled
    → (r ≡ Ok None) × (filled ≡ lent)
