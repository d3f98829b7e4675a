-- Each digit that is counted leaves a number of one digit less. Assumes nothing.
use Rattle.std.proofs.Common.{arith, rules}
use Rattle.numerals.proofs.SpelledLaws.{counting, counted_more, counted_all}
use Rattle.numerals.proofs.decimal_size.Goals as goal

pub loop-rest-init : goal.loop-rest-init
loop-rest-init c = counting c.args.number (search rules)

pub overflow_add-count : goal.overflow_add-count
overflow_add-count c = omega (arith, c.loop-rest.invariant.few)

pub loop-rest-preserved : goal.loop-rest-preserved
loop-rest-preserved c = counted_more c.loop-rest.invariant c.loop-rest-test.true

pub returns : goal.returns
returns c = counted_all c.loop-rest.invariant c.loop-rest-test.false
