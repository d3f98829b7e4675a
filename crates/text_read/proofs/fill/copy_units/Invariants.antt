-- What `fill::copy_units` keeps true in its loop. Assumes nothing.
use Prim.Native.Nat.{◌-◌}
use lib.ListN.{length}
use Rattle.text_read.proofs.CopyLaws.{UnitsLeft}
use Rattle.text_read.proofs.fill.copy_units.Given as goal

abbrev pub invariant-loop-at : goal.invariant-loop-at
invariant-loop-at l = UnitsLeft l.text l.start l.first l.initial.area l.area l.at l.used

abbrev pub decreases-loop-at : goal.decreases-loop-at
decreases-loop-at l = length l.text - l.at
