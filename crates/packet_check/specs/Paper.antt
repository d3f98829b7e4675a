-- What the answers mean in document 01's terms. Assumes nothing.
use Rattle.std.specs.Prelude.{ℕ, [], Result, Ok, Err}
use Rattle.words.specs.Answer.{Answer, accepted}
use Rattle.packet.specs.Paper.{refusal}
use Rattle.packet.specs.declared.PacketError.{PacketError}

-- what `validate` and what `encoded_size` answer
abbrev pub Validated : Type 0
Validated = Result (Unit {0}) PacketError

abbrev pub Measured : Type 0
Measured = Result ℕ PacketError

abbrev pub paper_validated : Validated → Answer
paper_validated (Ok valid) = accepted 0 []
paper_validated (Err error) = refusal error 0

abbrev pub paper_measured : Measured → Answer
paper_measured (Ok size) = accepted size []
paper_measured (Err error) = refusal error 0
