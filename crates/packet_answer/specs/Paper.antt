-- What the reader's answer means in document 01's terms. Assumes nothing.
use Rattle.std.specs.Prelude.{Option, Some, None, Result, Ok, Err}
use Rattle.words.specs.Answer.{Answer, accepted, more}
use Rattle.packet.specs.Paper.{refusal, fields_of}
use Rattle.packet_answer.specs.declared.Read.{Read}
use Rattle.packet_answer.specs.declared.Refusal.{Refusal}

-- a packet, need-more, or a refusal
abbrev pub Decoded : Type 0
Decoded = Result (Option Read) Refusal

abbrev pub paper : Decoded → Answer
paper (Ok (Some read)) = accepted read.consumed (fields_of read.packet)
paper (Ok None) = more
paper (Err refused) = refusal refused.error refused.consumed
