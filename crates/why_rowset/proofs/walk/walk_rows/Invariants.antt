-- What is still to come of the walk is the whole of it.
use Rattle.why_rowset.proofs.WalkLaws.{RowsLeft}
use Rattle.why_rowset.proofs.walk.walk_rows.Given as goal

abbrev pub invariant-loop-row : goal.invariant-loop-row
invariant-loop-row l = RowsLeft l.input l.count l.row l.at l.plain
