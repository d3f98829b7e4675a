-- `walk::walk_values` meets its contract. The invariant: what is still to come of the walk is the whole of it.
-- Assumes nothing.
use Prim.Native.Nat.{ℕ, ◌+◌, ◌-◌}
use mathlib.Core.Path.{◌≡◌, subst}
use native.Mathlib.Nat.{sub-zero}
use Rattle.std.proofs.lemmas.Result.{err_from_is_err_and}
use native.Mathlib.Omega.{arith}
use Rattle.why_rowset.proofs.WalkLaws.{ValuesLeft, values_stop, values_go, values_end}
use Rattle.why_rowset.proofs.walk.walk_values.Goals as goal

pub loop-n-init : goal.loop-n-init
loop-n-init c = rw (sub-zero c.args.count) (c.requires, (λ r goes. goes))

pub returns-in_err-walked : goal.returns-in_err-walked
returns-in_err-walked c =
    let exit = err_from_is_err_and c.from_residual.result c.from_residual.ensures.1 in
    rw (exit.1, exit.2)
    (values_stop _ _ _ _ _ _ _ c.loop-n.invariant (omega arith) _ c.walk_value.ensures _ c.in_err-walked.was)

pub loop-n-preserved : goal.loop-n-preserved
loop-n-preserved c =
    let one_less : c.args.count - c.loop-n._n - 1 ≡ c.args.count - (c.loop-n._n + 1) = omega arith in
    subst (λ (left : ℕ). ValuesLeft c.args.input.now c.args.count c.args.start c.args.before left c.in_ok-walked.walked.next c.in_ok-walked.walked.plain) one_less
    (values_go _ _ _ _ _ _ _ c.loop-n.invariant (omega arith) _ c.walk_value.ensures c.in_ok-walked.walked.next c.in_ok-walked.walked.plain c.in_ok-walked.was)

pub returns : goal.returns
returns c = values_end _ _ _ _ _ _ _ c.loop-n.invariant (omega arith)
