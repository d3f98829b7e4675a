-- What `fill::fill_text` keeps true in its loop. Assumes nothing.
use Prim.Native.Nat.{◌-◌}
use lib.ListN.{length}
use Rattle.text_read.proofs.TextLaws.{TextLeft}
use Rattle.text_read.proofs.fill.fill_text.Given as goal

abbrev pub invariant-loop-at : goal.invariant-loop-at
invariant-loop-at l = TextLeft l.text l.initial.rows l.initial.values l.initial.area l.rows l.values l.area l.at l.row l.k l.used

abbrev pub decreases-loop-at : goal.decreases-loop-at
decreases-loop-at l = length l.text - l.at
