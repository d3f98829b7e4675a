-- What each exported function promises, by name: the one finding that the order tells (document 02, A9), in words.
-- Assumes nothing.
use Rattle.std.specs.Prelude.{ℕ, List}
use Rattle.words.specs.declared.outcome.Outcome.{Outcome}
use Rattle.packet_mode.specs.Statement.{mode_of}
use Rattle.finding.specs.Words.{TellsFinding}
use Rattle.finding.specs.declared.Finding.{Finding}
use Rattle.why_packet.specs.Checks.{ExplainsPacket}
use Rattle.why_rowset.specs.Checks.{ExplainsRowset}

abbrev pub WhysPacket : ℕ → List ℕ → ℕ → ℕ → Outcome → Type 0
WhysPacket mode s limit ceiling r = (f : Finding) × ExplainsPacket s (mode_of mode) limit ceiling f × TellsFinding f r

abbrev pub WhysRowset : List ℕ → Outcome → Type 0
WhysRowset s r = (f : Finding) × ExplainsRowset s f × TellsFinding f r
