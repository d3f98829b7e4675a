-- What `check::check_id` keeps true in its loop. Assumes nothing.
use Rattle.text_walk.proofs.CheckLaws.{IdLeft}
use Rattle.text_walk.proofs.check.check_id.Given as goal

abbrev pub invariant-loop-at : goal.invariant-loop-at
invariant-loop-at l = IdLeft l.text l.start l.first l.at l.id
