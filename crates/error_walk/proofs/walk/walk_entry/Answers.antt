-- Case by case of the field's number. Assumes nothing.
use Rattle.std.proofs.lemmas.Result.{err_from_is_err_and}
use Rattle.error_walk.proofs.InsideLaws.{entry_stop, entry_one, entry_none}
use Rattle.error_walk.proofs.walk.walk_entry.Goals as goal

pub returns-then-field-ne1 : goal.returns-then-field-ne1
returns-then-field-ne1 c = entry_none _ _ c.args.field c.requires c.if-field-ne1.true

pub returns-in_err-walk_attribute : goal.returns-in_err-walk_attribute
returns-in_err-walk_attribute c =
    let p = err_from_is_err_and c.from_residual.result c.from_residual.ensures.1 in
    rw (p.1, p.2) (entry_stop _ _ c.args.field c.requires c.if-field-ne1.false _ (c.in_err-walk_attribute.ensures))

pub returns : goal.returns
returns c = entry_one _ _ c.args.field c.requires c.if-field-ne1.false _ (c.in_ok-walk_attribute.ensures)
