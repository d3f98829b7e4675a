-- `check::check_word` meets its contract. Assumes nothing.
use Rattle.text_walk.proofs.DigitLaws.{word_boolean, word_digits}
use borrow.Author.Rules.{rules}
use Rattle.text_walk.proofs.check.check_word.Goals as goal

pub returns-then-are_boolean : goal.returns-then-are_boolean
returns-then-are_boolean c =
    let a = c.args in
    word_boolean a.text.now a.start a.kind (search rules) c.if-kind-eq-BOOLEAN.true (c.are_boolean.ensures c.if-are_boolean.true)

pub returns-then-are_digits : goal.returns-then-are_digits
returns-then-are_digits c =
    let a = c.args in
    word_digits a.text.now a.start a.kind (search rules) c.if-kind-eq-BOOLEAN.false (c.are_digits.ensures c.if-are_digits.true)
