-- `uses` meets its contract. Assumes nothing.
use mathlib.Core.Path.{sym, ◌∙◌}
use Rattle.pack_plain.proofs.PlainLaws.{uses_not, uses_other, uses_length}
use Rattle.pack_plain.proofs.uses.Goals as goal

pub returns-then-not-is_stored : goal.returns-then-not-is_stored
returns-then-not-is_stored c =
    uses_not c.args.values.now c.args.j c.args.i (sym c.is_stored.ensures ∙ c.if-not-is_stored.true)

pub returns-then-values-j : goal.returns-then-values-j
returns-then-values-j c =
    uses_other c.args.values.now c.args.j c.args.i (sym c.is_stored.ensures ∙ c.if-not-is_stored.false) c.if-values-j.true

pub returns : goal.returns
returns c =
    uses_length c.args.values.now c.args.j c.args.i (sym c.is_stored.ensures ∙ c.if-not-is_stored.false) c.if-values-j.false
