-- `walk::walk_values` meets its contract. The invariant: what is still to come of the walk is the whole of it.
-- Assumes nothing.
use Prim.Native.Nat.{ℕ, ◌+◌, ◌-◌}
use mathlib.Core.Path.{◌≡◌, refl, subst}
use native.Mathlib.Nat.{sub-zero}
use Rattle.std.proofs.lemmas.Result.{err_from_is_err_and}
use native.Mathlib.Omega.{arith}
use Rattle.wire_read.proofs.WalkLaws.{ValuesLeft, values_stop, values_go, values_end}
use Rattle.wire_read.proofs.walk.walk_values.Goals as goal

pub loop-n-init : goal.loop-n-init
loop-n-init c = rw (sub-zero c.args.count) (c.requires, refl, (λ rest. refl))

pub returns-in_err-checked : goal.returns-in_err-checked
returns-in_err-checked c =
    let exit = err_from_is_err_and c.from_residual.result c.from_residual.ensures.1 in
    rw (exit.1, exit.2)
    (values_stop _ _ _ _ _ c.loop-n.invariant (omega arith) _ c.check_value.ensures.checks_value _ c.in_err-checked.was)

pub loop-n-preserved : goal.loop-n-preserved
loop-n-preserved c =
    let one_less : c.args.count - c.loop-n._n - 1 ≡ c.args.count - (c.loop-n._n + 1) = omega arith in
    subst (λ (left : ℕ). ValuesLeft c.args.input.now c.args.count c.args.start left c.in_ok-checked.checked.next) one_less
    (values_go _ _ _ _ _ c.loop-n.invariant (omega arith) _ c.check_value.ensures.checks_value _ _ c.check_value.ensures.lies c.in_ok-checked.was)

pub returns : goal.returns
returns c = values_end _ _ _ _ _ c.loop-n.invariant (omega arith)
