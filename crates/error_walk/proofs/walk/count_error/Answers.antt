-- The outermost error, and what it holds. Assumes nothing.
use Rattle.std.proofs.lemmas.Result.{err_from_is_err_and}
use Rattle.error_walk.proofs.AllLaws.{all_stopped, all_counted}
use Rattle.error_walk.proofs.walk.count_error.Goals as goal

pub returns-in_err-inner : goal.returns-in_err-inner
returns-in_err-inner c =
    let p = err_from_is_err_and c.from_residual.result c.from_residual.ensures.1 in
    rw (p.1, p.2) (all_stopped _ _ (c.in_err-inner.ensures))

pub returns : goal.returns
returns c = all_counted c.args.input.now _ (c.in_ok-inner.ensures)
