-- `plain::plain_rows` meets its contract. The invariant: the rows still to be looked at decide. Assumes nothing.
use mathlib.Core.Path.{refl, ◌∙◌, ap}
use native.Mathlib.Omega.{arith}
use Rattle.wire.specs.Layout.{values_in}
use Rattle.wire_read.proofs.PlainLaws.{plain_rows_begin, plain_row_within, plain_rows_not, plain_rows_go, plain_rows_end}
use Rattle.wire_read.proofs.plain.plain_rows.Goals as goal

pub loop-row-init : goal.loop-row-init
loop-row-init c = plain_rows_begin _ _ c.requires

pub word_at-requires : goal.word_at-requires
word_at-requires c = omega (arith, plain_row_within _ _ _ _ c.loop-row.invariant c.loop-row-test.true _ refl)

pub overflow_add-at : goal.overflow_add-at
overflow_add-at c = omega (arith, plain_row_within _ _ _ _ c.loop-row.invariant c.loop-row-test.true _ (c.values_in.ensures ∙ ap values_in c.word_at.ensures))

pub plain_values-requires : goal.plain_values-requires
plain_values-requires c = (plain_row_within _ _ _ _ c.loop-row.invariant c.loop-row-test.true _ (c.values_in.ensures ∙ ap values_in c.word_at.ensures)).1

pub returns-in_default : goal.returns-in_default
returns-in_default c = plain_rows_not _ _ _ _ c.loop-row.invariant c.loop-row-test.true _ (c.values_in.ensures ∙ ap values_in c.word_at.ensures) _ c.plain_values.ensures c.in_default.is

pub loop-row-preserved : goal.loop-row-preserved
loop-row-preserved c = plain_rows_go _ _ _ _ c.loop-row.invariant c.loop-row-test.true _ (c.values_in.ensures ∙ ap values_in c.word_at.ensures) _ c.plain_values.ensures _ c.in-Some.is

pub returns : goal.returns
returns c = plain_rows_end _ _ _ _ c.loop-row.invariant c.loop-row-test.false
