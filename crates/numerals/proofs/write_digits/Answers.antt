-- The digits that are stored are those of the number, or there is no room for them. Assumes nothing.
use mathlib.Core.Path.{sym}
use Rattle.std.proofs.Common.{arith}
use Rattle.words.proofs.BufferLaws.{fitted_short}
use Rattle.numerals.proofs.SpelledLaws.{storing, digit_stored, digits_stored}
use Rattle.numerals.proofs.write_digits.Goals as goal

pub returns-then-out-count : goal.returns-then-out-count
returns-then-out-count g c = (c.requires.3, sym (fitted_short _ _ (omega arith)))

pub loop-left-init : goal.loop-left-init
loop-left-init g c =
    storing g.row.BASE g.row.MOST c.args.number _ c.args.out.now (omega arith) c.requires.2 c.requires.3 (omega arith)

pub loop-left-preserved : goal.loop-left-preserved
loop-left-preserved g c = digit_stored _ c.loop-left.invariant c.loop-left-test.true c.digit.ensures

pub returns : goal.returns
returns g c = (c.requires.3, digits_stored c.loop-left.invariant c.loop-left-test.false (omega arith))
