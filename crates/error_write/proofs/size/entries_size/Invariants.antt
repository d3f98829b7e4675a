-- The sizes of the rows passed. Assumes nothing.
use Rattle.error_write.proofs.SizeLaws.{Adding}
use Rattle.error_write.proofs.size.entries_size.Given as goal

abbrev pub invariant-loop-k : goal.invariant-loop-k
invariant-loop-k l = Adding l.attributes l.i l.from l.till l.k l.size
