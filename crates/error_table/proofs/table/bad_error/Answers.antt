-- Case by case of the definition. Assumes nothing.
use Rattle.error_table.proofs.TableLaws.{code_wide, error_deep, error_text}
use Rattle.error_table.proofs.table.bad_error.Goals as goal

pub returns-then-errors-i-gt4294967295 : goal.returns-then-errors-i-gt4294967295
returns-then-errors-i-gt4294967295 c =
    code_wide c.args.size c.args.errors.now c.args.i c.if-errors-i-gt4294967295.true

pub returns-then-bad_depth : goal.returns-then-bad_depth
returns-then-bad_depth c =
    error_deep c.args.size c.args.errors.now c.args.i c.if-errors-i-gt4294967295.false _ c.bad_depth.ensures c.if-bad_depth.true

pub returns : goal.returns
returns c =
    error_text c.args.size c.args.errors.now c.args.i c.if-errors-i-gt4294967295.false _ c.bad_depth.ensures c.if-bad_depth.false _ c.reaches_outside.ensures
