-- `write::write_rows` meets its contract. The invariant: what is still to come goes behind what stands in front. Assumes nothing.
use mathlib.Core.Path.{refl}
use native.Mathlib.Omega.{arith}
use Rattle.wire_write.proofs.FillingLaws.{length_now, room_left}
use Rattle.text_write.proofs.PutLaws.{rows_start, row_within, row_inside, row_room, rows_step, rows_done}
use Rattle.text_write.proofs.write.write_rows.Goals as goal

pub loop-count-init : goal.loop-count-init
loop-count-init c =
    let start = c in
    rows_start _ _ _ _ start.requires.1 start.requires.2

pub slice_bounds-write_row-count : goal.slice_bounds-write_row-count
slice_bounds-write_row-count c = row_within _ _ _ _ _ _ _ _ c.loop-count.invariant c.loop-count-test.true

pub slice_bounds-write_row-start : goal.slice_bounds-write_row-start
slice_bounds-write_row-start c = row_within _ _ _ _ _ _ _ _ c.loop-count.invariant c.loop-count-test.true

pub write_row-at-requires : goal.write_row-at-requires
write_row-at-requires c =
    let turn = c in
    (c.requires.0, turn.loop-count.invariant.0, row_inside _ _ _ _ _ _ _ _ turn.loop-count.invariant c.loop-count-test.true, row_room _ _ _ _ _ _ _ _ turn.loop-count.invariant c.loop-count-test.true)

pub overflow_add-at : goal.overflow_add-at
overflow_add-at c = omega (arith, room_left (rows_step _ _ _ _ _ _ _ _ c.loop-count.invariant c.loop-count-test.true c.write_row-at.new.out c.write_row-at.result c.write_row-at.ensures _ refl).2, c.well_formed)

pub overflow_mul-k : goal.overflow_mul-k
overflow_mul-k c = omega (arith, row_inside _ _ _ _ _ _ _ _ c.loop-count.invariant c.loop-count-test.true, c.values_in.ensures)

pub overflow_add-k : goal.overflow_add-k
overflow_add-k c = omega (arith, row_inside _ _ _ _ _ _ _ _ c.loop-count.invariant c.loop-count-test.true, c.values_in.ensures)

pub loop-count-preserved : goal.loop-count-preserved
loop-count-preserved c =
    let write-row = c.write_row-at in
    rows_step _ _ _ _ _ _ _ _ c.loop-count.invariant c.loop-count-test.true write-row.new.out write-row.result write-row.ensures _ c.values_in.ensures

pub shape_of-out : goal.shape_of-out
shape_of-out c = length_now c.loop-count.invariant.2

pub returns : goal.returns
returns c = rows_done _ _ _ _ _ _ _ _ c.loop-count.invariant c.loop-count-test.false
