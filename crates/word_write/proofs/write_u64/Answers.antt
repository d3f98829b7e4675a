-- `word_write::write_u64` meets its contract. Assumes nothing.
use Rattle.std.proofs.Common.{arith, ◌∙◌}
use Rattle.word_write.proofs.WordBytes.{eight, word_left}
use Rattle.word_write.proofs.write_u64.Goals as goal

pub returns : goal.returns
returns c = word_left 8 _ _ _ _ _ (c.to_le_bytes.ensures ∙ eight _) (omega arith) c.write_bytes.ensures
