-- `plain::zeros` meets its contract. The invariant: the bytes still to be looked at decide. Assumes nothing.
use Rattle.std.proofs.Common.{ℕ, ◌+◌, ◌-◌, ◌≡◌, refl, arith}
use native.Mathlib.Nat.{sub-zero, add-zero}
use Rattle.wire_read.proofs.PlainLaws.{zeros_not, zeros_go, zeros_end}
use Rattle.wire_read.proofs.plain.zeros.Goals as goal

pub loop-past-init : goal.loop-past-init
loop-past-init c = (omega arith, rw (sub-zero c.args.count, add-zero c.args.start) (c.requires, refl))

pub returns-then-input-at-ne0 : goal.returns-then-input-at-ne0
returns-then-input-at-ne0 c = zeros_not _ _ _ _ _ c.loop-past.invariant.1 (omega arith) c.if-input-at-ne0.true

pub loop-past-preserved : goal.loop-past-preserved
loop-past-preserved c =
    let one_less : c.args.count - c.loop-past.past - 1 ≡ c.args.count - (c.loop-past.past + 1) = omega arith in
    let one_on : c.args.start + c.loop-past.past + 1 ≡ c.args.start + (c.loop-past.past + 1) = omega arith in
    (omega arith, rw (← one_less, ← one_on) (zeros_go _ _ _ _ _ c.loop-past.invariant.1 (omega arith) c.if-input-at-ne0.false))

pub returns : goal.returns
returns c = zeros_end _ _ _ _ _ c.loop-past.invariant.1 (omega arith)
