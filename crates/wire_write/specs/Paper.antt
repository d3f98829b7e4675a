-- Document 01's answer for the bytes written or a refusal: that for a size. Assumes nothing.
use Rattle.std.specs.Prelude.{ℕ, Result}
use Rattle.words.specs.Answer.{Answer}
use Rattle.wire.specs.declared.error.WireError.{WireError}
use Rattle.wire_check.specs.Paper.{paper_measured}

abbrev pub paper_encoded : Result ℕ WireError → Answer
paper_encoded = paper_measured
