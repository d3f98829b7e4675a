-- `value::walk_value` meets its contract: the checks found something, or what breaks the plain form is kept. Assumes
-- nothing.
use Rattle.std.proofs.lemmas.Result.{err_from_is_err_and}
use Rattle.why_rowset.proofs.WalkLaws.{value_stop, value_lies, value_pass}
use Rattle.why_rowset.proofs.value.walk_value.Goals as goal

pub kept-requires : goal.kept-requires
kept-requires c =
    value_lies c.args.input.now c.args.at c.args.plain _ c.check.ensures _ _ c.in_ok-header.was

pub returns-in_err-header : goal.returns-in_err-header
returns-in_err-header c =
    let exit = err_from_is_err_and c.from_residual.result c.from_residual.ensures.1 in
    rw (exit.1, exit.2)
    (value_stop c.args.input.now c.args.at c.args.plain _ c.check.ensures _ c.in_err-header.was)

pub returns : goal.returns
returns c =
    value_pass c.args.input.now c.args.at c.args.plain _ c.check.ensures _ _ c.in_ok-header.was c.kept.result c.kept.ensures
