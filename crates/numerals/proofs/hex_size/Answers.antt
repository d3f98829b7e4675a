-- The count of leading zeros gives the count of digits. Assumes nothing.
use Rattle.std.proofs.Common.{arith, rules}
use Rattle.numerals.proofs.SpelledLaws.{zeros_most, no_digit_counted, digits_counted}
use Rattle.numerals.proofs.hex_size.Goals as goal

pub overflow_sub-count : goal.overflow_sub-count
overflow_sub-count c = omega (arith, zeros_most c.args.word (search rules))

pub returns-then-count-eq0 : goal.returns-then-count-eq0
returns-then-count-eq0 c = no_digit_counted c.args.word (search rules) c.if-count-eq0.true

pub returns-else-count-eq0 : goal.returns-else-count-eq0
returns-else-count-eq0 c = digits_counted c.args.word (search rules) c.if-count-eq0.false
