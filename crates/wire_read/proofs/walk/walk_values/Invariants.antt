-- What is still to come of the walk is the whole of it.
use Rattle.std.proofs.Common.{◌-◌}
use Rattle.wire_read.proofs.WalkLaws.{ValuesLeft}
use Rattle.wire_read.proofs.walk.walk_values.Given as goal

abbrev pub invariant-loop-n : goal.invariant-loop-n
invariant-loop-n l = ValuesLeft l.input l.count l.start (l.count - l._n) l.at
