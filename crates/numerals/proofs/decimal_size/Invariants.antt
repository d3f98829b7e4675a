-- What is counted and what the rest has make the number's digits. Assumes nothing.
use Rattle.numerals.proofs.SpelledLaws.{Counted}
use Rattle.numerals.proofs.decimal_size.Given as goal

abbrev pub invariant-loop-rest : goal.invariant-loop-rest
invariant-loop-rest l = Counted l.fn.number l.count l.rest

abbrev pub decreases-loop-rest : goal.decreases-loop-rest
decreases-loop-rest l = l.rest
