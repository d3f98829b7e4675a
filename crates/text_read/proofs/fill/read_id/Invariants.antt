-- What `fill::read_id` keeps true in its loop. Assumes nothing.
use Rattle.text_read.proofs.FillLaws.{IdLeft}
use Rattle.text_read.proofs.fill.read_id.Given as goal

abbrev pub invariant-loop-at : goal.invariant-loop-at
invariant-loop-at l = IdLeft l.text l.start l.first l.at l.id
