-- What the reading of the whole input answers, and that the table has the room for its items. Assumes nothing.
use Rattle.std.proofs.lemmas.Result.{err_from_is_err_and}
use Rattle.yson.proofs.AnswerLaws.{lists_broken, lists_short, lists_ready, lists_items}
use Rattle.yson.proofs.items.Goals as goal

pub returns-in_err-start : goal.returns-in_err-start
returns-in_err-start c =
    let p = err_from_is_err_and c.from_residual.result c.from_residual.ensures.1 in
    rw (p.1, p.2) (lists_broken _ _ _ c.in_err-start.ensures)

pub returns-then-given-items : goal.returns-then-given-items
returns-then-given-items c = lists_short _ _ c.in_ok-start.field-0 c.in_ok-start.ensures c.if-given-items.true

pub fill-requires : goal.fill-requires
fill-requires c = lists_ready _ c.args.table.now c.in_ok-start.field-0 c.in_ok-start.ensures c.if-given-items.false

pub returns : goal.returns
returns c = lists_items _ _ c.in_ok-start.field-0 c.in_ok-start.ensures c.if-given-items.false _ c.fill.ensures
