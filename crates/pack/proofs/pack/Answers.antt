-- `pack` meets its contract: a table too long for links, 18 by its rules, or with links. Assumes nothing.
use native.Mathlib.Omega.{arith}
use Rattle.pack_answer.proofs.AnswerLaws.{rule_1, rule_3}
use Rattle.pack.proofs.pack.Goals as goal

pub returns-then-values-ne0 : goal.returns-then-values-ne0
returns-then-values-ne0 c =
    rule_1 c.args.area.now c.args.values.now c.args.out.now c.if-values-ne0.true

pub returns-then-bad-entries : goal.returns-then-bad-entries
returns-then-bad-entries c =
    rule_3 c.args.area.now c.args.values.now c.args.out.now c.if-values-ne0.false _ c.first_bad-bad.ensures c.if-bad-entries.true

pub pack_linked-requires : goal.pack_linked-requires
pack_linked-requires c = (c.if-values-ne0.false, omega (arith, c.first_bad-bad.ensures, c.if-bad-entries.false), omega (arith, c.if-values-ge-LINKED_WORDS.false))
