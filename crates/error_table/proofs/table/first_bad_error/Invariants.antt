-- The entries passed are good. Assumes nothing.
use Rattle.error_table.specs.Table.{bad_error, errors_in}
use Rattle.error_table.proofs.TableLaws.{Seeking}
use Rattle.error_table.proofs.table.first_bad_error.Given as goal

abbrev pub invariant-loop-i : goal.invariant-loop-i
invariant-loop-i l = Seeking (bad_error l.size l.errors) (errors_in l.errors) l.i
