-- What is written behind the entries still to come, and their sums. Assumes nothing.
use Rattle.error_write.proofs.WriteLaws.{Going}
use Rattle.error_write.proofs.write.write_errors.Given as goal

abbrev pub invariant-loop-i : goal.invariant-loop-i
invariant-loop-i l = Going l.tables.area.now l.tables.errors.now l.tables.attributes.now l.sorted l.total l.initial.out l.out l.till l.sums l.i l.at
