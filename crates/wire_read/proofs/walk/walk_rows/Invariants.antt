-- What is still to come of the walk is the whole of it, and each value passed took eight bytes at least.
use Rattle.wire_read.proofs.WalkLaws.{RowsLeft}
use Rattle.wire_read.proofs.walk.walk_rows.Given as goal

abbrev pub invariant-loop-row : goal.invariant-loop-row
invariant-loop-row l = RowsLeft l.input l.count l.row l.at l.values
