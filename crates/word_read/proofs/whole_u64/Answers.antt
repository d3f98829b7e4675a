-- `word_read::whole_u64` meets its contract. Assumes nothing.
use Rattle.std.proofs.Common.{◌∙◌, ap, List, ℕ}
use Rattle.words.specs.Word.{word}
use Rattle.words.proofs.WordLaws.{word_lent}
use Rattle.word_read.proofs.WordBytes.{eight}
use Rattle.word_read.proofs.whole_u64.Goals as goal

pub returns : goal.returns
returns c =
    let lent = (rw c.unwrap.ensures at c.try_into.ensures).1.same in
    word_lent 8 _ _ (c.from_le_bytes.ensures ∙ eight _ ∙ ap (λ (bytes : List ℕ). word 8 bytes 0) lent)
