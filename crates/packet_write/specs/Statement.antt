-- What each public function promises, by name. A lent area or table is read, and left as it was. Assumes nothing.
use Rattle.std.specs.Prelude.{ℕ, List, length}
use Rattle.words.specs.Statement.{Means, Holds}
use Rattle.guid.specs.declared.Guid.{Guid}
use Rattle.packet.specs.declared.Mode.{Mode}
use Rattle.packet.specs.declared.PacketType.{PacketType}
use Rattle.packet.specs.declared.PacketFlags.{PacketFlags}
use Rattle.packet.specs.Paper.{type_number}
use Rattle.packet.specs.Wire.{packet_bytes, parts_of}
use Rattle.packet_write.specs.Paper.{Encoded, paper}
use Rattle.packet_write.specs.Writing.{writing}

-- the bytes of a packet with the parts that a table names in an area
abbrev pub bytes_for : PacketType → PacketFlags → Guid → List ℕ → List ℕ → List ℕ
bytes_for type flags id area table = packet_bytes (type_number type) flags.0 id (parts_of area table)

-- writing answers r, and the output that held `out` holds `after`: document 01, "Writing fills the output from its
-- front, reports its bytes and leaves the rest."
pub record Encodes (mode : Mode) (type : PacketType) (flags : PacketFlags) (id : Guid) (area table out : List ℕ)
    (r : Encoded) (after : List ℕ) : Type 0 where
  pub answer : Means paper (writing mode (type_number type) area table (length out)) r
  pub output :
      Holds (writing mode (type_number type) area table (length out)) (bytes_for type flags id area table) out after
