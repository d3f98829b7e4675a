-- What the loop keeps. Assumes nothing.
use Rattle.varint.proofs.WriteLaws.{Shrinking}
use Rattle.varint.proofs.write.varint_size.Given as goal

abbrev pub invariant-loop-rest : goal.invariant-loop-rest
invariant-loop-rest l = Shrinking l.n l.rest l.i

abbrev pub decreases-loop-rest : goal.decreases-loop-rest
decreases-loop-rest l = l.rest
