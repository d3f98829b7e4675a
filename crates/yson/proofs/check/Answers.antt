-- What the reading of the whole input answers. Assumes nothing.
use Rattle.std.proofs.lemmas.Result.{err_from_is_err_and}
use Rattle.yson.proofs.AnswerLaws.{checks_broken, checks_items}
use Rattle.yson.proofs.check.Goals as goal

pub returns-in_err-items : goal.returns-in_err-items
returns-in_err-items c =
    let p = err_from_is_err_and c.from_residual.result c.from_residual.ensures.1 in
    rw (p.1, p.2) (checks_broken _ _ c.in_err-items.ensures)

pub returns : goal.returns
returns c = checks_items _ c.in_ok-items.field-0 c.in_ok-items.ensures
