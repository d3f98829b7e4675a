-- What is still to come of the walk is the whole of it.
use Rattle.std.proofs.Common.{◌-◌}
use Rattle.wire_check.proofs.WalkLaws.{ValuesLeft}
use Rattle.wire_check.proofs.size.measure_values.Given as goal

abbrev pub invariant-loop-n : goal.invariant-loop-n
invariant-loop-n l = ValuesLeft l.values l.start l.count l.before l.size l.k (l.count - l._n)
