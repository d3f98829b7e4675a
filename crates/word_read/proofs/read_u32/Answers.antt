-- `word_read::read_u32` meets its contract: nothing is left, or less than the word is left. Assumes nothing.
use Rattle.std.proofs.Common.{sym}
use Rattle.words.proofs.WordLaws.{word_past, word_halves}
use Rattle.word_read.proofs.read_u32.Goals as goal

pub returns-then-s-at : goal.returns-then-s-at
returns-then-s-at c = sym (word_past 4 _ _ c.if-s-at.true)

pub returns-then-s-at-lt4 : goal.returns-then-s-at-lt4
returns-then-s-at-lt4 c = word_halves 2 _ _ c.read_u16.ensures c.read_u16-then-s-at-lt4.ensures
