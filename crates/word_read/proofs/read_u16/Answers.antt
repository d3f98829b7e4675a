-- `word_read::read_u16` meets its contract: nothing is left, or less than the word is left. Assumes nothing.
use Rattle.std.proofs.Common.{sym, ◌+◌, arith}
use Rattle.words.specs.Word.{word}
use Rattle.words.proofs.WordLaws.{word_past}
use Rattle.word_read.proofs.read_u16.Goals as goal

pub returns-then-s-at : goal.returns-then-s-at
returns-then-s-at c = sym (word_past 2 _ _ c.if-s-at.true)

pub returns-then-s-at-lt2 : goal.returns-then-s-at-lt2
unfolding word
returns-then-s-at-lt2 c = omega (arith, word_past 1 c.args.s.now (c.args.at + 1) (omega arith))
