-- `check::are_boolean` meets its contract: two words, each eight digits. Assumes nothing.
use mathlib.Core.Bool.{false≢true}
use borrow.Author.Tests.{eqb-true}
use Rattle.text_walk.proofs.DigitLaws.{is_zero, is_one}
use Rattle.text_walk.proofs.check.are_boolean.Goals as goal

pub returns-then-read_u64-ne-ZEROS : goal.returns-then-read_u64-ne-ZEROS
returns-then-read_u64-ne-ZEROS c = λ e. absurd (false≢true e)

pub returns-then-low-eq-ZEROS : goal.returns-then-low-eq-ZEROS
returns-then-low-eq-ZEROS c =
    let known = c in
    λ _. is_zero known.args.bytes.now known.requires (λ n. (known.type_inv.bytes n).fits) _ _ c.read_u64.ensures c.read_u64-low.ensures c.if-read_u64-ne-ZEROS.false c.if-low-eq-ZEROS.true

pub returns : goal.returns
returns c =
    let known = c in
    λ e. is_one known.args.bytes.now known.requires (λ n. (known.type_inv.bytes n).fits) _ _ c.read_u64.ensures c.read_u64-low.ensures c.if-read_u64-ne-ZEROS.false (eqb-true _ _ e)
