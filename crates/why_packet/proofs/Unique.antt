-- One result for the statement. Assumes nothing.
use Prim.Native.Nat.{ℕ}
use mathlib.Core.List.{List}
use Rattle.words.specs.Statement.{OneResult}
use Rattle.packet.specs.declared.Mode.{Mode}
use Rattle.finding.proofs.Unique.{explains_unique}
use Rattle.why_packet.specs.Checks.{packet_checks, ExplainsPacket}

pub explain_unique : (s : List ℕ) (mode : Mode) (limit ceiling : ℕ) → OneResult (ExplainsPacket s mode limit ceiling)
explain_unique s mode limit ceiling = explains_unique (packet_checks s mode limit ceiling)
