-- Demand 1, its second sentence: a refusal or need-more changes no lent table or buffer. The statements are those that
-- the contracts of the functions cite by name. Assumes nothing.
use Rattle.std.specs.Prelude.{ℕ, ◌*◌, List, ◌≡◌, drop, Err}
use Rattle.words.specs.Answer.{NotTaken}
use Rattle.words.specs.declared.outcome.NoRoom.{NoRoom}
use Rattle.guid.specs.declared.Guid.{Guid}
use Rattle.guid_text.specs.Statement.{Prints}
use Rattle.packet.specs.declared.Mode.{Mode}
use Rattle.packet.specs.declared.PacketType.{PacketType}
use Rattle.packet.specs.declared.PacketFlags.{PacketFlags}
use Rattle.packet.specs.declared.PacketError.{PacketError}
use Rattle.packet.specs.Layout.{count}
use Rattle.packet.specs.Entries.{entry_words}
use Rattle.packet_answer.specs.Paper.{Decoded, paper}
use Rattle.packet_read.specs.Reading.{Limits}
use Rattle.packet_read.specs.Statement.{Decodes}
use Rattle.packet_write.specs.Statement.{Encodes}
use Rattle.wire.specs.declared.error.WireError.{WireError}
use Rattle.wire_read.specs.Statement as rowset
use Rattle.std.specs.declared.result.Result.TheVariants as result
use Rattle.wire_write.specs.Statement as rowset-write

-- the reader of packets: what is not taken leaves the table, and what is taken leaves the words past its entries
abbrev pub PacketTablesKeep : Type 0
PacketTablesKeep =
    (s : List ℕ) (limits : Limits) (table : List ℕ) (r : Decoded) (after : List ℕ) → Decodes s limits table r after
    → (NotTaken (paper r) → after ≡ table)
    × (drop (entry_words * count s) after ≡ drop (entry_words * count s) table)

-- the writer of packets
abbrev pub PacketOutputKeeps : Type 0
PacketOutputKeeps =
    (mode : Mode) (type : PacketType) (flags : PacketFlags) (id : Guid) (area table out : List ℕ)
    (error : PacketError) (after : List ℕ)
    → Encodes mode type flags id area table out (Err error) after → after ≡ out

-- the reader of rowsets, and its two tables
abbrev pub RowsetTablesKeep : Type 0
RowsetTablesKeep =
    (s rows values rows' values' : List ℕ) (refusal : WireError)
    → rowset.Decodes s rows values (result.Err refusal) rows' values' → (rows' ≡ rows) × (values' ≡ values)

-- the writer of rowsets
abbrev pub RowsetOutputKeeps : Type 0
RowsetOutputKeeps =
    (area rows values out : List ℕ) (refusal : WireError) (after : List ℕ)
    → rowset-write.Encodes area rows values out (result.Err refusal) after → after ≡ out

-- the printer of GUIDs
abbrev pub TextKeeps : Type 0
TextKeeps =
    (g : Guid) (before : List ℕ) (short : NoRoom) (after : List ℕ)
    → Prints g before (Err short) after → after ≡ before
