-- `walk::walk_body` meets its contract: the row count's check, the rows, and what is left behind them. Assumes nothing.
use Rattle.std.proofs.lemmas.Result.{err_from_is_err_and}
use Rattle.why_rowset.proofs.WalkLaws.{head_many, rowset_stop, rowset_trailing, rowset_end}
use Rattle.why_rowset.proofs.walk.walk_body.Goals as goal

pub returns-then-count-gt-MAX_ROWS_PER_ROWSET : goal.returns-then-count-gt-MAX_ROWS_PER_ROWSET
returns-then-count-gt-MAX_ROWS_PER_ROWSET c =
    head_many c.args.input.now c.requires _ c.read_u64-count.ensures c.refused.result c.if-count-gt-MAX_ROWS_PER_ROWSET.true c.refused.ensures

pub returns-then-end-input : goal.returns-then-end-input
returns-then-end-input c =
    rowset_trailing c.args.input.now c.requires _ c.read_u64-count.ensures c.if-count-gt-MAX_ROWS_PER_ROWSET.false _ c.walk_rows.ensures c.in_ok-walked.walked.next c.in_ok-walked.walked.plain c.in_ok-walked.was c.refused-then-end-input.result c.if-end-input.true c.refused-then-end-input.ensures

pub returns-in_err-walked : goal.returns-in_err-walked
returns-in_err-walked c =
    let exit = err_from_is_err_and c.from_residual.result c.from_residual.ensures.1 in
    rw (exit.1, exit.2)
    (rowset_stop c.args.input.now c.requires _ c.read_u64-count.ensures c.if-count-gt-MAX_ROWS_PER_ROWSET.false _ c.walk_rows.ensures _ c.in_err-walked.was)

pub returns : goal.returns
returns c =
    rowset_end c.args.input.now c.requires _ c.read_u64-count.ensures c.if-count-gt-MAX_ROWS_PER_ROWSET.false _ c.walk_rows.ensures c.in_ok-walked.walked.next c.in_ok-walked.walked.plain c.in_ok-walked.was c.if-end-input.false
