-- What `values_size` keeps true in its loop. Assumes nothing.
use Rattle.std.proofs.Common.{◌-◌}
use Rattle.text_size.proofs.SizeLaws.{ValuesLeft}
use Rattle.text_size.proofs.values_size.Given as goal

abbrev pub invariant-loop-n : goal.invariant-loop-n
invariant-loop-n l = ValuesLeft l.area l.values l.start l.count l.size l.k (l.count - l._n)
