-- `text::put_field` meets its contract: the digits over the tail's front, and a byte behind them. Assumes nothing.
use mathlib.Core.Path.{ap}
use Prim.Native.Nat.{ℕ, ◌+◌}
use native.Mathlib.Omega.{arith}
use Rattle.numerals.specs.Statement.{decimal}
use Rattle.listing.specs.Stages.{Wrote}
use Rattle.listing.proofs.TextLaws.{wrote_tail, wrote_behind, decimal_short}
use Rattle.why_text.proofs.text.put_field.Goals as goal

pub overflow_add-last : goal.overflow_add-last
overflow_add-last c = omega (arith, c.write_decimal.ensures.0, decimal_short c.args.number)

pub bounds-out-last : goal.bounds-out-last
bounds-out-last c = omega (arith, c.write_decimal.ensures.0, decimal_short c.args.number)

pub overflow_add-result : goal.overflow_add-result
overflow_add-result c = omega (arith, c.write_decimal.ensures.0, decimal_short c.args.number)

pub returns : goal.returns
returns c =
    let start = c in
    let number = start.args.number in
    let digits = c.write_decimal in
    let short = decimal_short number in
    let first : Wrote (decimal number) start.args.at start.args.out.now _ _ =
    record { ends = ap (λ (k : ℕ). start.args.at + k) digits.ensures.0; holds = wrote_tail (decimal number) start.args.out.now digits.new.out start.args.at (omega arith) digits.ensures.1 } in
    (wrote_behind start.args.after (omega arith) first, omega (arith, digits.ensures.0))
