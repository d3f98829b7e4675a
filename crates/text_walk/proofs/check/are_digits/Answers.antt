-- `check::are_digits` meets its contract: while the sum is 0, every byte so far is a digit. Assumes nothing.
use native.Mathlib.Omega.{arith}
use borrow.Author.Tests.{eqb-true}
use Rattle.text_walk.proofs.DigitLaws.{digit_more}
use Rattle.text_walk.proofs.check.are_digits.Goals as goal

pub loop-k-init : goal.loop-k-init
loop-k-init c = λ _ k h. absurd (omega arith)

pub loop-k-preserved : goal.loop-k-preserved
loop-k-preserved c =
    let at = c.loop-k in
    digit_more c.args.bytes.now at.k at.misfits c.misfit-misfits.result at.invariant c.misfit-misfits.ensures

pub returns : goal.returns
returns c = λ e k h. c.loop-k.invariant (eqb-true _ 0 e) k (omega (arith, c.loop-k-test.false))
