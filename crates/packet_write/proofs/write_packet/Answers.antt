-- `write_packet` meets its contract: the fixed header, and what follows it where something does. Assumes nothing.
use mathlib.Core.Path.{sym, ◌∙◌}
use native.Mathlib.Omega.{arith}
use Rattle.packet.specs.Paper.{type_number}
use Rattle.packet.specs.Wire.{body, parts_of}
use Rattle.packet_write.proofs.FillingLaws.{place, closes, mid_room}
use Rattle.packet_write.proofs.PacketLaws.{header_room, header_all, header_first}
use Rattle.packet_write.proofs.write_packet.Goals as goal

pub write_fixed-requires : goal.write_fixed-requires
write_fixed-requires c =
    let start = c.args in
    header_room (type_number start.packet_type) start.flags.0 start.id start.area.now start.parts.now start.out.now c.requires.1

pub slice_bounds-write_body-count : goal.slice_bounds-write_body-count
slice_bounds-write_body-count c =
    let start = c.args in
    place (header_first (type_number start.packet_type) start.flags.0 start.id start.area.now start.parts.now start.out.now c.requires.1 c.write_fixed.ensures (sym c.has_variable_header.ensures ∙ c.if-has_variable_header.true))

pub slice_bounds-write_body-start : goal.slice_bounds-write_body-start
slice_bounds-write_body-start c =
    let start = c.args in
    place (header_first (type_number start.packet_type) start.flags.0 start.id start.area.now start.parts.now start.out.now c.requires.1 c.write_fixed.ensures (sym c.has_variable_header.ensures ∙ c.if-has_variable_header.true))

pub write_body-requires : goal.write_body-requires
write_body-requires c =
    let start = c.args in (
      c.requires.0,
      omega (arith, mid_room (header_first (type_number start.packet_type) start.flags.0 start.id start.area.now start.parts.now start.out.now c.requires.1 c.write_fixed.ensures (sym c.has_variable_header.ensures ∙ c.if-has_variable_header.true))),
    )

pub returns-then-has_variable_header : goal.returns-then-has_variable_header
returns-then-has_variable_header c =
    let start = c.args in
    closes (body (parts_of start.area.now start.parts.now))
    (header_first (type_number start.packet_type) start.flags.0 start.id start.area.now start.parts.now start.out.now c.requires.1 c.write_fixed.ensures (sym c.has_variable_header.ensures ∙ c.if-has_variable_header.true))
    c.write_body.ensures

pub returns-else-has_variable_header : goal.returns-else-has_variable_header
returns-else-has_variable_header c =
    let start = c.args in
    header_all (type_number start.packet_type) start.flags.0 start.id start.area.now start.parts.now start.out.now c.requires.1 c.write_fixed.ensures (sym c.has_variable_header.ensures ∙ c.if-has_variable_header.false)
