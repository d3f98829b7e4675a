-- `word_write::write_u16` meets its contract. Assumes nothing.
use Rattle.std.proofs.Common.{arith, ◌∙◌}
use Rattle.word_write.proofs.WordBytes.{two, word_left}
use Rattle.word_write.proofs.write_u16.Goals as goal

pub returns : goal.returns
returns c = word_left 2 _ _ _ _ _ (c.to_le_bytes.ensures ∙ two _) (omega arith) c.write_bytes.ensures
