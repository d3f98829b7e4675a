-- What the answer means in document 01's terms: a size is told as the checks tell it. Assumes nothing.
use Rattle.words.specs.Answer.{Answer}
use Rattle.packet_check.specs.Paper.{Measured, paper_measured}

-- the bytes that were written, or a refusal
abbrev pub Encoded : Type 0
Encoded = Measured

abbrev pub paper : Encoded → Answer
paper = paper_measured
