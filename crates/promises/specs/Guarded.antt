-- The third word of a part's entry. Document 02, A6: "The part table gets a third word, the checksum word as stored in
-- the packet, null parts included. The writer doesn't read it." Assumes nothing.
use Rattle.std.specs.Prelude.{ℕ, ◌+◌, ◌*◌, ◌^◌, ◌<◌, List, ◌++◌, ◌≡◌, length, get_or, take, Some, Ok}
use Rattle.words.specs.Word.{word}
use Rattle.guid.specs.declared.Guid.{Guid}
use Rattle.guid.specs.Guid.{Fitting}
use Rattle.packet.specs.Layout.{fixed_header_size, size_bytes, checksum_bytes, count}
use Rattle.packet.specs.Entries.{room, offset_at, size_at, sum_at}
use Rattle.packet.specs.Wire.{null, sum_word, parts_of}
use Rattle.packet.specs.declared.Mode.{Mode}
use Rattle.packet.specs.declared.PacketType.{PacketType}
use Rattle.packet.specs.declared.PacketFlags.{PacketFlags}
use Rattle.packet.specs.declared.Packet.{Packet}
use Rattle.packet_answer.specs.Paper.{Decoded}
use Rattle.packet_read.specs.Reading.{Limits}
use Rattle.packet_read.specs.Statement.{Decodes}
use Rattle.packet_check.specs.Paper.{Validated, Measured}
use Rattle.packet_check.specs.Statement.{Validates, Measures}
use Rattle.packet_write.specs.Paper.{Encoded}
use Rattle.packet_write.specs.Statement.{Encodes}
use Rattle.promises.specs.RoundTrip.{Held, given}

-- the table of an accepted packet has, for each part, null or not, the eight bytes that stand in the list of checksums
abbrev pub SumsAreTold : Type 0
SumsAreTold =
    (s : List ℕ) (limits : Limits) (table : List ℕ) (packet : Packet) (consumed : ℕ) (filled : List ℕ)
    → limits.room ≡ room table
    → Decodes s limits table (Ok (Some record { packet = packet; consumed = consumed })) filled
    → (i : ℕ) → i < count s
    → sum_at filled i ≡ word 8 s (fixed_header_size + size_bytes * count s + checksum_bytes * i)

-- a packet written and read back has each part's checksum there, and 0 for a null one
abbrev pub WrittenIsGuarded : Type 0
WrittenIsGuarded =
    (mode : Mode) (type : PacketType) (flags : PacketFlags) (id : Guid) (area table out : List ℕ)
    (n : ℕ) (after tail : List ℕ) (limits : Limits) (lent : List ℕ) (r : Decoded) (filled : List ℕ)
    → flags.0 < 2 ^ 16 → Fitting id
    → Encodes mode type flags id area table out (Ok n) after
    → limits.room ≡ room lent
    → Held (given type flags id area table) limits
    → Decodes (take n after ++ tail) limits lent r filled
    → (i : ℕ) → i < length (parts_of area table)
    → sum_at filled i ≡ sum_word (get_or (parts_of area table) i null)

-- two tables that differ at most in their third words
pub record SameStretches (table other : List ℕ) : Type 0 where
  pub same_length : length table ≡ length other
  pub offsets : (i : ℕ) → offset_at table i ≡ offset_at other i
  pub sizes : (i : ℕ) → size_at table i ≡ size_at other i

-- the writer, `encoded_size` and `validate` answer alike for such tables
abbrev pub ThirdWordUnread : Type 0
ThirdWordUnread =
    (mode : Mode) (type : PacketType) (area table other : List ℕ) → SameStretches table other
    → ((flags : PacketFlags) (id : Guid) (out : List ℕ) (r : Encoded) (after : List ℕ)
    → Encodes mode type flags id area table out r after → Encodes mode type flags id area other out r after)
    × ((r : Measured) → Measures mode type area table r → Measures mode type area other r)
    × ((r : Validated) → Validates mode type area table r → Validates mode type area other r)
