-- `size::measure_rows` meets its contract. The invariant: what is still to come of the walk is the whole of it.
-- Assumes nothing.
use native.Mathlib.Omega.{arith}
use Rattle.std.proofs.lemmas.Result.{err_from_is_err_and}
use Rattle.wire_check.proofs.WalkLaws.{rows_begin, rows_stop, row_fits, rows_go, rows_end}
use Rattle.wire_check.proofs.size.measure_rows.Goals as goal

pub loop-i-init : goal.loop-i-init
loop-i-init c = rows_begin _ _ c.requires

pub measure_row-requires : goal.measure_row-requires
measure_row-requires c = (row_fits _ _ _ _ _ c.loop-i.invariant c.loop-i-test.true, c.loop-i.invariant.1)

pub returns-in_err-size : goal.returns-in_err-size
returns-in_err-size c =
    let exit = err_from_is_err_and c.from_residual.result c.from_residual.ensures.1 in
    rw (exit.1, exit.2)
    (rows_stop _ _ _ _ _ c.loop-i.invariant c.loop-i-test.true c.measure_row.result c.measure_row.ensures _ c.in_err-size.was)

pub overflow_mul-k : goal.overflow_mul-k
overflow_mul-k c = omega (arith, row_fits _ _ _ _ _ c.loop-i.invariant c.loop-i-test.true, c.values_in.ensures)

pub overflow_add-k : goal.overflow_add-k
overflow_add-k c = omega (arith, row_fits _ _ _ _ _ c.loop-i.invariant c.loop-i-test.true, c.values_in.ensures)

pub loop-i-preserved : goal.loop-i-preserved
loop-i-preserved c =
    rows_go _ _ _ _ _ c.loop-i.invariant c.loop-i-test.true c.measure_row.result c.measure_row.ensures _ c.in_ok-size.was _ c.values_in.ensures

pub returns : goal.returns
returns c = rows_end _ _ _ _ _ c.loop-i.invariant c.loop-i-test.false
