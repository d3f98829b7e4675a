-- What is still to come goes behind what stands in front.
use Rattle.std.proofs.Common.{◌-◌}
use Rattle.wire_write.proofs.BytesLaws.{ValuesToGo}
use Rattle.wire_write.proofs.write.write_values.Given as goal

abbrev pub invariant-loop-n : goal.invariant-loop-n
invariant-loop-n l = ValuesToGo l.area l.values l.start l.count l.initial.out l.out l.at l.k (l.count - l._n)
