-- Document 01's answer for what was read or a refusal. Assumes nothing.
use Rattle.std.specs.Prelude.{[], ◌∷◌, Result, Ok, Err}
use Rattle.words.specs.Answer.{Answer, accepted}
use Rattle.wire.specs.Paper.{paper}
use Rattle.wire.specs.declared.error.WireError.{WireError}
use Rattle.wire_read.specs.declared.rowset.Decoded.{Decoded}

-- how many rows and values were read, or the refusal
abbrev pub paper_decoded : Result Decoded WireError → Answer
paper_decoded (Ok read) = accepted 0 (read.rows ∷ read.values ∷ [])
paper_decoded (Err refusal) = paper refusal
