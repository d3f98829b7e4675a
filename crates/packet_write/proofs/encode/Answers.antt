-- `encode` meets its contract: what `encoded_size` refuses is refused, what has not the room too, and the rest is
-- written. Assumes nothing.
use mathlib.Core.Path.{refl}
use Rattle.packet.specs.Paper.{type_number}
use Rattle.packet_check.proofs.CheckLaws.{sized}
use Rattle.packet_write.proofs.PacketLaws.{encodes, encodes_err, writing_short, writing_accepts, packet_fits}
use lib.ListN.{length}
use Rattle.packet_write.proofs.encode.Goals as goal

pub returns-then-out-needed : goal.returns-then-out-needed
returns-then-out-needed c =
    let start = c.args in
    let told = c.in_ok-needed.ensures in
    encodes (writing_short start.mode (type_number start.packet_type) start.area.now start.parts.now (length start.out.now) told c.if-out-needed.true) refl

pub write_packet-requires : goal.write_packet-requires
write_packet-requires c =
    let start = c.args in
    let told = c.in_ok-needed.ensures in (
      (sized start.mode (type_number start.packet_type) start.area.now start.parts.now told).0,
      packet_fits start.mode (type_number start.packet_type) start.area.now start.parts.now (length start.out.now) told start.flags.0 start.id c.if-out-needed.false,
    )

pub returns-in_err-needed : goal.returns-in_err-needed
returns-in_err-needed c =
    let start = c.args in
    encodes_err start.mode start.packet_type start.flags start.id start.area.now start.parts.now start.out.now c.in_err-needed.field-0.0 c.from_residual.result c.from_residual.ensures c.in_err-needed.ensures

pub returns : goal.returns
returns c =
    let start = c.args in
    let told = c.in_ok-needed.ensures in
    encodes (writing_accepts start.mode (type_number start.packet_type) start.area.now start.parts.now (length start.out.now) told c.if-out-needed.false) c.write_packet.ensures
