-- One result for each statement: two outcomes of one answer are equal. Assumes nothing.
use Rattle.words.specs.Statement.{OneResult}
use Rattle.words.proofs.Unique.{equal_to_one}
use Rattle.packet.specs.declared.PacketError.{PacketError}
use Rattle.packet_answer.specs.Paper.{Decoded}
use Rattle.packet_answer.specs.Statement.{TellsDecoded, IsPlain}

pub outcome_unique : (answer : Decoded) → OneResult (TellsDecoded answer)
outcome_unique answer = equal_to_one _

pub refusal_unique : (error : PacketError) → OneResult (IsPlain error)
refusal_unique error = equal_to_one _
