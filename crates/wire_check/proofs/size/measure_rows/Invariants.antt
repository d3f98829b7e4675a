-- What is still to come of the walk is the whole of it.
use Rattle.wire_check.proofs.WalkLaws.{RowsLeft}
use Rattle.wire_check.proofs.size.measure_rows.Given as goal

abbrev pub invariant-loop-i : goal.invariant-loop-i
invariant-loop-i l = RowsLeft l.rows l.values l.size l.k l.i
