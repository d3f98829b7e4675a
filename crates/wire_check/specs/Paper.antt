-- Document 01's answer for a size or a refusal. Assumes nothing.
use Rattle.std.specs.Prelude.{ℕ, [], Result, Ok, Err}
use Rattle.words.specs.Answer.{Answer, accepted}
use Rattle.wire.specs.Paper.{paper}
use Rattle.wire.specs.declared.error.WireError.{WireError}

abbrev pub paper_measured : Result ℕ WireError → Answer
paper_measured (Ok n) = accepted n []
paper_measured (Err refusal) = paper refusal
