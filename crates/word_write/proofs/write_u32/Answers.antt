-- `word_write::write_u32` meets its contract. Assumes nothing.
use Rattle.std.proofs.Common.{arith, ◌∙◌}
use Rattle.word_write.proofs.WordBytes.{four, word_left}
use Rattle.word_write.proofs.write_u32.Goals as goal

pub returns : goal.returns
returns c = word_left 4 _ _ _ _ _ (c.to_le_bytes.ensures ∙ four _) (omega arith) c.write_bytes.ensures
