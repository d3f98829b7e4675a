-- `write_body` meets its contract, piece by piece. Assumes nothing.
use native.Mathlib.Omega.{arith}
use Rattle.packet_write.proofs.BodyLaws.{body_room, sums_place, parts_room, parts_written, seal_room, body_written}
use Rattle.packet_write.proofs.write_body.Goals as goal

pub write_sizes-requires : goal.write_sizes-requires
write_sizes-requires c =
    let start = c.args in
    (c.requires.0.small, omega (arith, body_room start.area.now start.parts.now start.out.now c.requires.1))

pub slice_bounds-write_parts-count : goal.slice_bounds-write_parts-count
slice_bounds-write_parts-count c =
    let start = c.args in
    sums_place start.area.now start.parts.now start.out.now c.requires.1 c.requires.0 c.write_sizes.ensures

pub slice_bounds-write_parts-start : goal.slice_bounds-write_parts-start
slice_bounds-write_parts-start c =
    let start = c.args in
    sums_place start.area.now start.parts.now start.out.now c.requires.1 c.requires.0 c.write_sizes.ensures

pub write_parts-requires : goal.write_parts-requires
write_parts-requires c =
    let start = c.args in
    (c.requires.0.inside, parts_room start.area.now start.parts.now start.out.now c.requires.1 c.requires.0 c.write_sizes.ensures)

pub seal-requires : goal.seal-requires
seal-requires c =
    let start = c.args in
    seal_room start.area.now start.parts.now start.out.now c.requires.1
    (parts_written start.area.now start.parts.now start.out.now c.requires.1 c.requires.0 c.write_sizes.ensures c.write_parts.ensures)

pub returns : goal.returns
returns c =
    let start = c.args in
    body_written start.area.now start.parts.now start.out.now c.requires.1
    (parts_written start.area.now start.parts.now start.out.now c.requires.1 c.requires.0 c.write_sizes.ensures c.write_parts.ensures)
    c.seal.ensures
