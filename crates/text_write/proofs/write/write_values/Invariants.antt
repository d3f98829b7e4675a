-- What `write::write_values` keeps true in its loop. Assumes nothing.
use Rattle.std.proofs.Common.{◌-◌}
use Rattle.text_write.proofs.PutLaws.{ValuesToGo}
use Rattle.text_write.proofs.write.write_values.Given as goal

abbrev pub invariant-loop-n : goal.invariant-loop-n
invariant-loop-n l = ValuesToGo l.area l.values l.start l.count l.initial.out l.out l.at l.k (l.count - l.n)
