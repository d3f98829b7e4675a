-- `write::write_word` meets its contract. The digits are stored from the last one on. Assumes nothing.
use Rattle.words.specs.Text.{digit}
use Rattle.numerals.proofs.SpelledLaws.{digit_stored}
use Rattle.text_write.proofs.PutLaws.{word_start, word_puts}
use Rattle.text_write.proofs.write.write_word.Goals as goal

pub loop-at-init : goal.loop-at-init
loop-at-init c = word_start c.args.word c.args.out.now c.requires

pub loop-at-preserved : goal.loop-at-preserved
unfolding digit
loop-at-preserved c = digit_stored _ c.loop-at.invariant c.loop-at-test.true c.hex_digit.ensures

pub returns : goal.returns
returns c = word_puts _ _ _ _ _ c.requires c.loop-at.invariant c.loop-at-test.false
