-- What `walk::count_text` keeps true in its loop. Assumes nothing.
use Prim.Native.Nat.{◌-◌}
use lib.ListN.{length}
use Rattle.text_walk.proofs.CheckLaws.{TextLeft}
use Rattle.text_walk.proofs.walk.count_text.Given as goal

abbrev pub invariant-loop-at : goal.invariant-loop-at
invariant-loop-at l = TextLeft l.text l.at l.rows l.values l.bytes l.size

abbrev pub decreases-loop-at : goal.decreases-loop-at
decreases-loop-at l = length l.text - l.at
