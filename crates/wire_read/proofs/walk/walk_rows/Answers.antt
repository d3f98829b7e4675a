-- `walk::walk_rows` meets its contract. The invariant: what is still to come of the walk is the whole of it, and each value
-- passed took eight bytes at least. Assumes nothing.
use Rattle.std.proofs.lemmas.Result.{err_from_is_err_and}
use native.Mathlib.Omega.{arith}
use Rattle.wire_read.proofs.WalkLaws.{rows_begin, rows_stop, row_within, rows_go, rows_end}
use Rattle.wire_read.proofs.walk.walk_rows.Goals as goal

pub loop-row-init : goal.loop-row-init
loop-row-init c = rows_begin _ _ c.requires

pub returns-in_err-walked : goal.returns-in_err-walked
returns-in_err-walked c =
    let exit = err_from_is_err_and c.from_residual.result c.from_residual.ensures.1 in
    rw (exit.1, exit.2)
    (rows_stop _ _ _ _ _ c.loop-row.invariant c.loop-row-test.true _ c.walk_row.ensures _ c.in_err-walked.was)

pub overflow_add-values : goal.overflow_add-values
overflow_add-values c = omega (arith, row_within _ _ _ _ _ c.loop-row.invariant c.loop-row-test.true _ c.walk_row.ensures c.in_ok-walked.walked.next c.in_ok-walked.walked.values c.in_ok-walked.was)

pub loop-row-preserved : goal.loop-row-preserved
loop-row-preserved c = rows_go _ _ _ _ _ c.loop-row.invariant c.loop-row-test.true _ c.walk_row.ensures c.in_ok-walked.walked.next c.in_ok-walked.walked.values c.in_ok-walked.was

pub returns : goal.returns
returns c = rows_end _ _ _ _ _ c.loop-row.invariant c.loop-row-test.false
