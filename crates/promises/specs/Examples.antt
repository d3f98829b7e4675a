-- Document 01's examples that are marked P, in one table: what the definitions answer is what the document says. The
-- two texts of GUIDs that are read are answered as document 02, A5, has it. Behind them three of its A12: an SslAck in
-- each mode, and type 258. Assumes nothing.
use Rattle.std.specs.Prelude.{ℕ, ◌^◌, ◌-◌, List, [], ◌∷◌, ◌++◌, ◌≡◌, take, Result}
use Rattle.words.specs.Word.{bytes_of}
use Rattle.words.specs.Answer.{Answer, accepted, more, refuse}
use Rattle.words.specs.Text.{text}
use Rattle.crc64.specs.Polynomial.{checksum}
use Rattle.guid.specs.Guid.{guid_of}
use Rattle.guid.specs.declared.Guid.{Guid}
use Rattle.guid_text.specs.declared.BadGuid.{BadGuid}
use Rattle.guid_text.specs.Text.{text_of}
use Rattle.guid_text.specs.Paper.{parsed_paper}
use Rattle.guid_text.specs.Statement.{Parses}
use Rattle.packet.specs.declared.Mode.TheVariants.{Archive, Live}
use Rattle.packet_read.specs.Reading.{limited, reading as readingPacket}
use Rattle.wire.specs.Layout.{row_words}
use Rattle.wire_read.specs.Reading.{reading as readingRowset}

-- a packet of this type, flags 0, id words 1 to 4, no parts, checksum 0
abbrev pub bare : ℕ → List ℕ
bare type =
    bytes_of 4 0x7861_6d4f ++ bytes_of 2 type ++ bytes_of 2 0 ++ bytes_of 4 1 ++ bytes_of 4 2 ++ bytes_of 4 3 ++ bytes_of 4 4
    ++ bytes_of 4 0
    ++ bytes_of 8 0

abbrev pub ack : List ℕ
ack = bare 1

abbrev pub message : List ℕ
message = bare 0

-- count 1, and the null mark; count 1, and count 0
abbrev pub null_row : List ℕ
null_row = bytes_of 8 1 ++ bytes_of 8 (2 ^ 64 - 1)

abbrev pub empty_row : List ℕ
empty_row = bytes_of 8 1 ++ bytes_of 8 0

-- this text is read with this answer
abbrev pub TextAnswered : List ℕ → Answer → Type 0
TextAnswered s answer = (r : Result Guid BadGuid) × Parses s r × (parsed_paper r ≡ answer)

abbrev pub Examples : Type 0
Examples =
    (checksum [] ≡ 0)
    × (checksum (0x01 ∷ []) ≡ 0xe543_2797_6592_7881)
    × (checksum (0x02 ∷ []) ≡ 0x2fc5_68b9_aeb6_8983)
    × (checksum (0x03 ∷ []) ≡ 0xca86_4f2e_cb24_f102)
    × (checksum (0x01 ∷ 0xe5 ∷ 0x43 ∷ 0x27 ∷ 0x97 ∷ 0x65 ∷ 0x92 ∷ 0x78 ∷ 0x81 ∷ []) ≡ 0)
    × (text_of (guid_of 1 2 3 4) ≡ text "4-3-2-1")
    × TextAnswered (text "+1-2-3-4") (refuse 16 (0 ∷ 3 ∷ []))
    × TextAnswered (text "0-0-0") (refuse 16 (5 ∷ 4 ∷ []))
    × (readingRowset [] 0 0 ≡ refuse 9 (0 ∷ 8 ∷ []))
    × (readingRowset null_row 1 0 ≡ accepted 0 (1 ∷ 0 ∷ []))
    × (row_words null_row 1 8 ≡ (2 ^ 64 - 1) ∷ [])
    × (readingRowset empty_row 1 0 ≡ accepted 0 (1 ∷ 0 ∷ []))
    × (row_words empty_row 1 8 ≡ 0 ∷ [])
    × (readingPacket ack (limited Archive 0 65_536 []) ≡ accepted 36 (1 ∷ 0 ∷ 1 ∷ 2 ∷ 3 ∷ 4 ∷ 0 ∷ []))
    × (readingPacket (take 35 ack) (limited Archive 0 65_536 []) ≡ more)
    × (readingPacket message (limited Archive 43 65_536 []) ≡ refuse 8 (44 ∷ 43 ∷ []))
    × (readingPacket (bare 2) (limited Archive 0 65_536 []) ≡ accepted 36 (2 ∷ 0 ∷ 1 ∷ 2 ∷ 3 ∷ 4 ∷ 0 ∷ []))
    × (readingPacket (bare 2) (limited Live 0 65_536 []) ≡ refuse 24 (2 ∷ []))
    × (readingPacket (bare 258) (limited Live 0 65_536 []) ≡ refuse 2 (258 ∷ []))
