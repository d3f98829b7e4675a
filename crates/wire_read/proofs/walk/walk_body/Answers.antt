-- `walk::walk_body` meets its contract: the row count's check, the rows, and what is left behind them. Assumes nothing.
use Rattle.std.proofs.lemmas.Result.{err_from_is_err_and}
use Rattle.wire_read.proofs.WalkLaws.{head_many, rowset_stop, rowset_trailing, rowset_end}
use Rattle.wire_read.proofs.walk.walk_body.Goals as goal

pub returns-then-count-gt-MAX_ROWS_PER_ROWSET : goal.returns-then-count-gt-MAX_ROWS_PER_ROWSET
returns-then-count-gt-MAX_ROWS_PER_ROWSET c =
    head_many _ c.requires _ c.read_u64-count.ensures c.if-count-gt-MAX_ROWS_PER_ROWSET.true

pub returns-then-walked-input : goal.returns-then-walked-input
returns-then-walked-input c =
    rowset_trailing _ c.requires _ c.read_u64-count.ensures c.if-count-gt-MAX_ROWS_PER_ROWSET.false _ c.walk_rows.ensures c.in_ok-walked.walked.next c.in_ok-walked.walked.values c.in_ok-walked.was c.if-walked-input.true

pub returns-in_err-walked : goal.returns-in_err-walked
returns-in_err-walked c =
    let exit = err_from_is_err_and c.from_residual.result c.from_residual.ensures.1 in
    rw (exit.1, exit.2)
    (rowset_stop _ c.requires _ c.read_u64-count.ensures c.if-count-gt-MAX_ROWS_PER_ROWSET.false _ c.walk_rows.ensures _ c.in_err-walked.was)

pub returns : goal.returns
returns c =
    rowset_end _ c.requires _ c.read_u64-count.ensures c.if-count-gt-MAX_ROWS_PER_ROWSET.false _ c.walk_rows.ensures c.in_ok-walked.walked.next c.in_ok-walked.walked.values c.in_ok-walked.was c.if-walked-input.false
