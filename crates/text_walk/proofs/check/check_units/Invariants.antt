-- What `check::check_units` keeps true in its loop. Assumes nothing.
use Prim.Native.Nat.{◌-◌}
use lib.ListN.{length}
use Rattle.text_walk.proofs.CheckLaws.{UnitsTo}
use Rattle.text_walk.proofs.check.check_units.Given as goal

abbrev pub invariant-loop-at : goal.invariant-loop-at
invariant-loop-at l = UnitsTo l.text l.start l.at l.limit

abbrev pub decreases-loop-at : goal.decreases-loop-at
decreases-loop-at l = length l.text - l.at
