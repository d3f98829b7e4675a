-- `fill::read_word` meets its contract: eight digits, and eight more behind them. Assumes nothing.
use mathlib.Core.Path.{sym, ap₂, subst}
use Prim.Native.Nat.{ℕ, ◌+◌, ◌*◌}
use native.Mathlib.Omega.{arith}
use Rattle.text_read.specs.Stages.{ReadsWord}
use Rattle.text_read.proofs.FillLaws.{first_half_lem, second_half_lem, high_fits, word_fits, halves_read}
use Rattle.text_read.proofs.fill.read_word.Goals as goal

pub eight_digits-requires : goal.eight_digits-requires
eight_digits-requires c =
    let start = c in
    let half = first_half_lem start.args.text.now start.args.start start.args.kind start.requires in
    (half.there, half.are_digits)

pub overflow_mul-result : goal.overflow_mul-result
overflow_mul-result c =
    let start = c in
    omega (arith, c.eight_digits.ensures, high_fits start.args.text.now start.args.start start.args.kind start.requires)

pub overflow_add-start : goal.overflow_add-start
overflow_add-start c =
    let start = c in
    omega (arith, (first_half_lem start.args.text.now start.args.start start.args.kind start.requires).there, start.well_formed)

pub eight_digits-requires-2 : goal.eight_digits-requires-2
eight_digits-requires-2 c =
    let start = c in
    let half = second_half_lem start.args.text.now start.args.start start.args.kind start.requires in
    (half.there, half.are_digits)

pub overflow_add-result : goal.overflow_add-result
overflow_add-result c =
    let start = c in
    omega (arith, c.eight_digits.ensures, c.eight_digits-2.ensures, word_fits start.args.text.now start.args.start start.args.kind start.requires)

pub returns : goal.returns
returns c =
    let start = c in
    subst (ReadsWord start.args.text.now start.args.start start.args.kind)
    (ap₂ (λ (x y : ℕ). x * 4294967296 + y) (sym c.eight_digits.ensures) (sym c.eight_digits-2.ensures))
    (halves_read start.args.text.now start.args.start start.args.kind start.requires)
