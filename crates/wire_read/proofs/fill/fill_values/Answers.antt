-- `fill::fill_values` meets its contract. The invariant: what is still to be stored over the table as it stands is the whole.
-- Assumes nothing.
use Prim.Native.Nat.{ℕ, ◌+◌, ◌-◌}
use mathlib.Core.Path.{◌≡◌, refl, subst}
use native.Mathlib.Nat.{sub-zero}
use Rattle.wire.specs.Layout.{entry_words}
use native.Mathlib.Omega.{arith}
use Rattle.wire_read.proofs.FillLaws.{EntriesLeft, entry_within, entries_go, entries_end}
use Rattle.wire_read.proofs.fill.fill_values.Goals as goal

pub loop-n-init : goal.loop-n-init
loop-n-init c = rw (sub-zero c.args.count) (refl, c.requires.0, c.requires.1, refl, refl)

pub fill_value-at-requires : goal.fill_value-at-requires
fill_value-at-requires c = entry_within _ _ _ _ _ _ _ _ _ c.loop-n.invariant (omega arith)

pub overflow_add-k : goal.overflow_add-k
overflow_add-k c = omega (arith, entry_within _ _ _ _ _ _ _ _ _ c.loop-n.invariant (omega arith))

pub loop-n-preserved : goal.loop-n-preserved
loop-n-preserved c =
    let one_less : c.args.count - c.loop-n._n - 1 ≡ c.args.count - (c.loop-n._n + 1) = omega arith in
    subst (λ (left : ℕ). EntriesLeft c.args.input.now c.args.count c.args.start c.args.values.now c.args.first c.fill_value-at.new.values left c.fill_value-at.result (c.loop-n.k + entry_words)) one_less
    (entries_go _ _ _ _ _ _ _ _ _ c.loop-n.invariant (omega arith) _ _ c.fill_value-at.ensures.0 c.fill_value-at.ensures.1)

pub shape_of-values : goal.shape_of-values
shape_of-values c = c.loop-n.invariant.3

pub returns : goal.returns
returns c = entries_end _ _ _ _ _ _ _ _ _ c.loop-n.invariant (omega arith)
