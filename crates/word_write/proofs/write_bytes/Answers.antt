-- `word_write::write_bytes` meets its contract: what fits stands over the front. Assumes nothing.
use Rattle.std.proofs.Common.{sym}
use Rattle.words.proofs.BufferLaws.{fitted_fits, fitted_short}
use Rattle.word_write.proofs.write_bytes.Goals as goal

pub returns-then-out-bytes : goal.returns-then-out-bytes
returns-then-out-bytes c = sym (fitted_short _ _ c.if-out-bytes.true)

pub returns : goal.returns
returns c = rw (fitted_fits _ _ c.if-out-bytes.false, c.copy_from_slice.ensures.after)
