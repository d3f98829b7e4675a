-- `plain::plain_values` meets its contract. The invariant: the values still to be looked at decide. Assumes nothing.
use Prim.Native.Nat.{ℕ, ◌+◌, ◌-◌}
use mathlib.Core.Path.{◌≡◌, refl, subst}
use native.Mathlib.Nat.{sub-zero}
use native.Mathlib.Omega.{arith}
use Rattle.wire_read.proofs.PlainLaws.{PlainLeft, plain_within, plain_not, plain_go, plain_end}
use Rattle.wire_read.proofs.plain.plain_values.Goals as goal

pub loop-n-init : goal.loop-n-init
loop-n-init c = rw (sub-zero c.args.count) (refl, c.requires, refl)

pub plain_value-requires : goal.plain_value-requires
plain_value-requires c = plain_within _ _ _ _ _ c.loop-n.invariant (omega arith)

pub next_value-at-requires : goal.next_value-at-requires
next_value-at-requires c = plain_within _ _ _ _ _ c.loop-n.invariant (omega arith)

pub loop-n-preserved : goal.loop-n-preserved
loop-n-preserved c =
    let one_less : c.args.count - c.loop-n._n - 1 ≡ c.args.count - (c.loop-n._n + 1) = omega arith in
    subst (λ (left : ℕ). PlainLeft c.args.input.now c.args.count c.args.start left c.next_value-at.result) one_less
    (plain_go _ _ _ _ _ c.loop-n.invariant (omega arith) _ _ c.plain_value.ensures c.if-not-plain_value.false c.next_value-at.ensures)

pub returns-then-not-plain_value : goal.returns-then-not-plain_value
returns-then-not-plain_value c = plain_not _ _ _ _ _ c.loop-n.invariant (omega arith) _ c.plain_value.ensures c.if-not-plain_value.true

pub returns : goal.returns
returns c = plain_end _ _ _ _ _ c.loop-n.invariant (omega arith)
