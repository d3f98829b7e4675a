-- The rows before `k` are in order. Assumes nothing.
use Rattle.error_write.proofs.RowLaws.{SortedTo}
use Rattle.error_write.proofs.rows.is_sorted.Given as goal

abbrev pub invariant-loop-k : goal.invariant-loop-k
invariant-loop-k l = SortedTo l.attributes l.k
