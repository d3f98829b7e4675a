-- `fill::digit_values` meets its contract. Assumes nothing.
use native.Mathlib.Omega.{arith}
use Rattle.words.proofs.WordLaws.{word_lent}
use Rattle.text_read.proofs.DigitLaws.{few_letters, at_least, letters_within, values_left}
use Rattle.text_read.proofs.fill.digit_values.Goals as goal

pub overflow_sub-result : goal.overflow_sub-result
overflow_sub-result c =
    let start = c in
    at_least start.args.text.now start.args.at _ start.requires.1 (word_lent 8 _ _ c.read_u64-word.ensures)

pub overflow_mul-result : goal.overflow_mul-result
overflow_mul-result c = omega (arith, few_letters c.read_u64-word.result)

pub overflow_sub-result-2 : goal.overflow_sub-result-2
overflow_sub-result-2 c =
    let start = c in
    letters_within start.args.text.now start.args.at _ start.requires.1 (word_lent 8 _ _ c.read_u64-word.ensures)

pub returns : goal.returns
returns c =
    let start = c in
    values_left start.args.text.now start.args.at _ start.requires.1 (word_lent 8 _ _ c.read_u64-word.ensures)
