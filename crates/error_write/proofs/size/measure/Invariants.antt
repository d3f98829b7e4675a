-- The sums of the inner errors of each depth behind the entries still to come. Assumes nothing.
use Rattle.error_write.proofs.MeasureLaws.{Measuring}
use Rattle.error_write.proofs.size.measure.Given as goal

abbrev pub invariant-loop-i : goal.invariant-loop-i
invariant-loop-i l = Measuring l.area l.errors l.attributes l.sorted l.till l.sums l.i
