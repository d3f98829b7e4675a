-- `plain::word_at` meets its contract. Assumes nothing.
use Rattle.words.proofs.WordLaws.{word_lent}
use Rattle.wire_read.proofs.plain.word_at.Goals as goal

pub returns : goal.returns
returns c = word_lent 8 _ _ c.read_u64.ensures
