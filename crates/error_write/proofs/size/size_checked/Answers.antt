-- The rules of the tables, then the size. Assumes nothing.
use Rattle.std.proofs.lemmas.Result.{err_from_is_err_and}
use Rattle.error_write.proofs.AnswerLaws.{tables_sound, size_failed, size_passed}
use Rattle.error_write.proofs.size.size_checked.Goals as goal

pub returns-in_err-check_tables : goal.returns-in_err-check_tables
returns-in_err-check_tables c =
    let p = err_from_is_err_and c.from_residual.result c.from_residual.ensures.1 in
    rw (p.1, p.2) (size_failed _ _ _ _ (c.in_err-check_tables.ensures))

pub measure-requires : goal.measure-requires
measure-requires c = tables_sound _ _ _ _ (c.in_ok-check_tables.ensures)

pub returns : goal.returns
returns c = size_passed _ _ _ _ (c.in_ok-check_tables.ensures) _ c.measure.ensures
