-- `write::write_units` meets its contract. The invariant: what is still to come goes behind what stands in front. Assumes nothing.
use native.Mathlib.Omega.{arith}
use Rattle.wire_write.proofs.FillingLaws.{length_now, room_left}
use Rattle.text_write.proofs.PutLaws.{units_start, units_done, unit_within, unit_room, units_step}
use Rattle.text_write.proofs.write.write_units.Goals as goal

pub loop-byte-init : goal.loop-byte-init
loop-byte-init c = units_start _ _ c.requires

pub slice_bounds-write_unit-count : goal.slice_bounds-write_unit-count
slice_bounds-write_unit-count c = unit_within _ _ _ _ _ c.loop-byte.invariant c.loop-byte-test.true

pub slice_bounds-write_unit-start : goal.slice_bounds-write_unit-start
slice_bounds-write_unit-start c = unit_within _ _ _ _ _ c.loop-byte.invariant c.loop-byte-test.true

pub write_unit-at-requires : goal.write_unit-at-requires
write_unit-at-requires c = unit_room _ _ _ _ _ c.loop-byte.invariant c.loop-byte-test.true

pub overflow_add-at : goal.overflow_add-at
overflow_add-at c = omega (arith, room_left (units_step _ _ _ _ _ c.loop-byte.invariant c.loop-byte-test.true c.write_unit-at.new.out c.write_unit-at.result c.write_unit-at.ensures), c.well_formed)

pub loop-byte-preserved : goal.loop-byte-preserved
loop-byte-preserved c = units_step _ _ _ _ _ c.loop-byte.invariant c.loop-byte-test.true c.write_unit-at.new.out c.write_unit-at.result c.write_unit-at.ensures

pub shape_of-out : goal.shape_of-out
shape_of-out c = length_now c.loop-byte.invariant

pub returns : goal.returns
returns c = units_done _ _ _ _ _ c.loop-byte.invariant c.loop-byte-test.false
