-- `fill::eight_digits` meets its contract. Assumes nothing.
use mathlib.Core.Path.{◌∙◌, ap}
use Prim.Native.Nat.{ℕ}
use Rattle.text_read.proofs.DigitLaws.{spelled, paired, eight_spelled}
use Rattle.text_read.proofs.fill.eight_digits.Goals as goal

pub returns : goal.returns
returns c =
    let start = c in
    ap (λ (x : ℕ). spelled (paired x)) c.digit_values-values.ensures ∙ eight_spelled start.args.text.now start.args.at start.requires.1
