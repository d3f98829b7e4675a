use borrow.Author.Tests.{eq-eqb, ne_eqb}
use Rattle.pack.proofs.same_pair.Goals as goal

pub returns-then-values-j : goal.returns-then-values-j
returns-then-values-j c = rw (eq-eqb _ _ c.if-values-j.true)

pub returns-else-values-j : goal.returns-else-values-j
returns-else-values-j c = rw (ne_eqb _ _ c.if-values-j.false)
