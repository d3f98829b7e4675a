-- The digits are stored from the last one on. Assumes nothing.
use Rattle.words.specs.Text.{spelled}
use Rattle.numerals.proofs.SpelledLaws.{Storing}
use Rattle.numerals.proofs.write_digits.Given as goal

abbrev pub invariant-loop-left : goal.invariant-loop-left
invariant-loop-left g l = Storing g.row.BASE (spelled g.row.BASE g.row.MOST l.fn.number) l.fn.out l.out l.left l.rest

abbrev pub decreases-loop-left : goal.decreases-loop-left
decreases-loop-left g l = l.left
