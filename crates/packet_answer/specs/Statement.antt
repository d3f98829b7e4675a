-- What the public functions promise, by name. Assumes nothing.
use Rattle.std.specs.Prelude.{◌≡◌}
use Rattle.words.specs.Paper.{Tells}
use Rattle.words.specs.declared.outcome.Outcome.{Outcome}
use Rattle.packet.specs.declared.PacketError.{PacketError}
use Rattle.packet_answer.specs.declared.Refusal.{Refusal}
use Rattle.packet_answer.specs.Paper.{Decoded, paper}

-- the answer in words
abbrev pub TellsDecoded : Decoded → Outcome → Type 0
TellsDecoded answer r = Tells (paper answer) r

-- a refusal by this error that takes nothing
abbrev pub IsPlain : PacketError → Refusal → Type 0
IsPlain e refused = refused ≡ record { error = e; consumed = 0 }
