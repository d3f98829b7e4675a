-- `size::measure_values` meets its contract. The invariant: what is still to come of the walk is the whole of it.
-- Assumes nothing.
use Prim.Native.Nat.{ℕ, ◌+◌, ◌-◌}
use mathlib.Core.Path.{◌≡◌, refl, subst}
use native.Mathlib.Nat.{sub-zero}
use Rattle.wire.specs.Layout.{entry_words}
use native.Mathlib.Omega.{arith}
use Rattle.std.proofs.lemmas.Result.{err_from_is_err_and}
use Rattle.wire_check.proofs.WalkLaws.{ValuesLeft, values_stop, values_go, values_end}
use Rattle.wire_check.proofs.size.measure_values.Goals as goal

pub loop-n-init : goal.loop-n-init
loop-n-init c = rw (sub-zero c.args.count) (c.requires.0, c.requires.1, ((λ rest. refl), refl))

pub returns-in_err-size : goal.returns-in_err-size
returns-in_err-size c =
    let exit = err_from_is_err_and c.from_residual.result c.from_residual.ensures.1 in
    rw (exit.1, exit.2)
    (values_stop _ _ _ _ _ _ _ c.loop-n.invariant (omega arith) c.measure_value.result c.measure_value.ensures _ c.in_err-size.was)

pub loop-n-preserved : goal.loop-n-preserved
loop-n-preserved c =
    let one_less : c.args.count - c.loop-n._n - 1 ≡ c.args.count - (c.loop-n._n + 1) = omega arith in
    subst (λ (left : ℕ). ValuesLeft c.args.values.now c.args.start c.args.count c.args.before c.in_ok-size.size (c.loop-n.k + entry_words) left) one_less
    (values_go _ _ _ _ _ _ _ c.loop-n.invariant (omega arith) c.measure_value.result c.measure_value.ensures _ c.in_ok-size.was)

pub returns : goal.returns
returns c = values_end _ _ _ _ _ _ _ c.loop-n.invariant (omega arith)
