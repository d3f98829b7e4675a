-- `plain::padding` meets its contract. The invariant: the bytes still to be looked at decide. Assumes nothing.
use Rattle.std.proofs.Common.{ℕ, ◌+◌, ◌-◌, ◌≡◌, arith}
use native.Mathlib.Nat.{sub-zero, add-zero}
use Rattle.why_rowset.proofs.PlainLaws.{padding_stop, padding_go, padding_end}
use Rattle.why_rowset.proofs.plain.padding.Goals as goal

pub loop-past-init : goal.loop-past-init
loop-past-init c = (omega arith, rw (sub-zero c.args.count, add-zero c.args.start) (c.requires, (λ r finds. finds)))

pub returns-then-byte-ne0 : goal.returns-then-byte-ne0
returns-then-byte-ne0 c = padding_stop _ _ _ _ _ c.loop-past.invariant.1 (omega arith) c.if-byte-ne0.true

pub loop-past-preserved : goal.loop-past-preserved
loop-past-preserved c =
    let one_less : c.args.count - c.loop-past.past - 1 ≡ c.args.count - (c.loop-past.past + 1) = omega arith in
    let one_on : c.args.start + c.loop-past.past + 1 ≡ c.args.start + (c.loop-past.past + 1) = omega arith in
    (omega arith, rw (← one_less, ← one_on) (padding_go _ _ _ _ _ c.loop-past.invariant.1 (omega arith) c.if-byte-ne0.false))

pub returns : goal.returns
returns c = padding_end _ _ _ _ _ c.loop-past.invariant.1 (omega arith)
