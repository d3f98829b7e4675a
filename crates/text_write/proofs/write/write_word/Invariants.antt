-- What `write::write_word` keeps true in its loop. Assumes nothing.
use Rattle.text_form.specs.Form.{hexes}
use Rattle.numerals.proofs.SpelledLaws.{Storing}
use Rattle.text_write.proofs.write.write_word.Given as goal

abbrev pub invariant-loop-at : goal.invariant-loop-at
invariant-loop-at l = Storing 16 (hexes 16 l.word) l.initial.out l.out l.at l.rest
