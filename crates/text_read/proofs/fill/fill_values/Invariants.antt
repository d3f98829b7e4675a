-- What `fill::fill_values` keeps true in its loop. Assumes nothing.
use Prim.Native.Nat.{◌-◌}
use lib.ListN.{length}
use Rattle.text_read.proofs.LineLaws.{ValuesLeft}
use Rattle.text_read.proofs.fill.fill_values.Given as goal

abbrev pub invariant-loop-at : goal.invariant-loop-at
invariant-loop-at l = ValuesLeft l.text l.start l.first l.before l.initial.values l.initial.area l.values l.area l.at l.k l.used l.count

abbrev pub decreases-loop-at : goal.decreases-loop-at
decreases-loop-at l = length l.text - l.at
