-- What `check::check_values` keeps true in its loop. Assumes nothing.
use Prim.Native.Nat.{◌-◌}
use lib.ListN.{length}
use Rattle.text_walk.proofs.CheckLaws.{ValuesLeft}
use Rattle.text_walk.proofs.check.check_values.Given as goal

abbrev pub invariant-loop-at : goal.invariant-loop-at
invariant-loop-at l = ValuesLeft l.text l.start l.row l.before l.at l.count l.bytes l.size

abbrev pub decreases-loop-at : goal.decreases-loop-at
decreases-loop-at l = length l.text - l.at
