-- What live mode changes, of the functions by their own statements. Document 02, A12: "no live peer may send type 2.
-- Add a live mode, chosen by the caller: its reader and its writer refuse type 2. [..] Demand 2's equality with the
-- Rust is claimed for archive mode, and in live mode for every other type." Assumes nothing.
use Rattle.std.specs.Prelude.{ℕ, ◌%◌, ◌≤◌, ◌<◌, false, List, ◌≡◌, length, Ok, Err}
use Rattle.words.specs.Answer.{Answer, refused}
use Rattle.guid.specs.declared.Guid.{Guid}
use Rattle.packet.specs.declared.Mode.{Mode}
use Rattle.packet.specs.declared.Mode.TheVariants.{Archive, Live}
use Rattle.packet.specs.declared.PacketType.{PacketType}
use Rattle.packet.specs.declared.PacketType.TheVariants.{SslAck}
use Rattle.packet.specs.declared.PacketFlags.{PacketFlags}
use Rattle.packet.specs.declared.PacketError.TheVariants.{RetiredType}
use Rattle.packet.specs.Layout.{packet_signature, fixed_header_size, signature, type}
use Rattle.packet.specs.Entries.{entry_words, room, outside_at}
use Rattle.packet.specs.Mode.{retired_type, is_retired}
use Rattle.packet.specs.Paper.{type_number}
use Rattle.packet_answer.specs.Paper.{Decoded}
use Rattle.packet_answer.specs.Paper as reading
use Rattle.packet_read.specs.Reading.{limited}
use Rattle.packet_read.specs.Statement.{Decodes}
use Rattle.packet_check.specs.Paper.{Validated, Measured, paper_validated, paper_measured}
use Rattle.packet_check.specs.Statement.{Validates, Measures}
use Rattle.packet_write.specs.Paper.{Encoded}
use Rattle.packet_write.specs.Paper as writing
use Rattle.packet_write.specs.Statement.{Encodes}

-- an input whose fixed header is there and signed, and whose type is 2
pub record Retired (s : List ℕ) : Type 0 where
  pub there : fixed_header_size ≤ length s
  pub signed : signature s ≡ packet_signature
  pub retired : type s ≡ retired_type

-- Reading: the answer in live mode is that in archive mode, except exactly there; there it is 24 (2), nothing is
-- consumed, and the table is left as it was.
abbrev pub ReadingLiveIsArchiveBut24 : Type 0
ReadingLiveIsArchiveBut24 =
    (s : List ℕ) (bytes ceiling : ℕ) (table : List ℕ) (archive live : Decoded) (archived after : List ℕ)
    → Decodes s (limited Archive bytes ceiling table) table archive archived
    → Decodes s (limited Live bytes ceiling table) table live after
    → (Retired s → (live ≡ Err record { error = RetiredType retired_type; consumed = 0 }) × (after ≡ table))
    × ((Retired s → ⊥) → (live ≡ archive) × (after ≡ archived))

-- a packet to write that is an SslAck, and whose table 18 does not refuse: it has whole entries, and none outside the
-- area
pub record RetiredToWrite (type : PacketType) (area table : List ℕ) : Type 0 where
  pub retired : type ≡ SslAck
  pub whole : length table % entry_words ≡ 0
  pub inside : (i : ℕ) → i < room table → outside_at area table i ≡ false

-- Writing, sizes and `validate`: likewise, the output left as it was.
abbrev pub WritingLiveIsArchiveBut24 : Type 0
WritingLiveIsArchiveBut24 =
    (type : PacketType) (area table : List ℕ)
    → ((flags : PacketFlags) (id : Guid) (out : List ℕ) (archive live : Encoded) (archived after : List ℕ)
    → Encodes Archive type flags id area table out archive archived
    → Encodes Live type flags id area table out live after
    → (RetiredToWrite type area table → (live ≡ Err (RetiredType retired_type)) × (after ≡ out))
    × ((RetiredToWrite type area table → ⊥) → (live ≡ archive) × (after ≡ archived)))
    × ((archive live : Measured) → Measures Archive type area table archive → Measures Live type area table live
    → (RetiredToWrite type area table → live ≡ Err (RetiredType retired_type))
    × ((RetiredToWrite type area table → ⊥) → live ≡ archive))
    × ((archive live : Validated) → Validates Archive type area table archive → Validates Live type area table live
    → (RetiredToWrite type area table → live ≡ Err (RetiredType retired_type))
    × ((RetiredToWrite type area table → ⊥) → live ≡ archive))

-- what a mode writes is of no type that it calls retired, so that the same mode reads it back (`written_is_lent`)
abbrev pub WrittenIsCurrent : Type 0
WrittenIsCurrent =
    (mode : Mode) (type : PacketType) (flags : PacketFlags) (id : Guid) (area table out : List ℕ)
    (n : ℕ) (after : List ℕ)
    → Encodes mode type flags id area table out (Ok n) after
    → is_retired mode (type_number type) ≡ false

-- an answer that is no 24
abbrev pub NotBy24 : Answer → Type 0
NotBy24 a = (values : List ℕ) (consumed : ℕ) → a ≡ refused 24 values consumed → ⊥

-- in archive mode 24 never arises
abbrev pub ArchiveIsNeverBy24 : Type 0
ArchiveIsNeverBy24 =
    ((s : List ℕ) (bytes ceiling : ℕ) (table : List ℕ) (r : Decoded) (after : List ℕ)
    → Decodes s (limited Archive bytes ceiling table) table r after
    → NotBy24 (reading.paper r))
    × ((type : PacketType) (flags : PacketFlags) (id : Guid) (area table out : List ℕ) (r : Encoded) (after : List ℕ)
    → Encodes Archive type flags id area table out r after
    → NotBy24 (writing.paper r))
    × ((type : PacketType) (area table : List ℕ) (r : Measured) → Measures Archive type area table r
    → NotBy24 (paper_measured r))
    × ((type : PacketType) (area table : List ℕ) (r : Validated) → Validates Archive type area table r
    → NotBy24 (paper_validated r))
