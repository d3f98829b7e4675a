-- The rows passed have an index of `i` at least. Assumes nothing.
use Rattle.error_write.proofs.RowLaws.{AtLeast}
use Rattle.error_write.proofs.rows.first_row.Given as goal

abbrev pub invariant-loop-k : goal.invariant-loop-k
invariant-loop-k l = AtLeast l.attributes l.i l.k l.till
