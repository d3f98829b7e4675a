-- One result for each statement: two outcomes that meet an exported function's statement are equal. Assumes nothing.
use Prim.Native.Nat.{ℕ}
use mathlib.Core.Path.{sym, ◌∙◌, ap}
use mathlib.Core.List.{List}
use Rattle.words.specs.Statement.{OneResult}
use Rattle.packet_mode.specs.Statement.{mode_of}
use Rattle.finding.specs.Words.{words_of}
use Rattle.why_packet.proofs.Unique as Packet
use Rattle.why_rowset.proofs.Unique as Rowset
use Rattle.face_why.specs.Statement.{WhysPacket, WhysRowset}

pub cablefinch_why_packet_unique : (mode : ℕ) (s : List ℕ) (limit ceiling : ℕ) → OneResult (WhysPacket mode s limit ceiling)
cablefinch_why_packet_unique mode s limit ceiling r r' (f, explains, tells) (f', explains', tells') =
    tells ∙ ap words_of (Packet.explain_unique s (mode_of mode) limit ceiling f f' explains explains') ∙ sym tells'

pub cablefinch_why_rowset_unique : (s : List ℕ) → OneResult (WhysRowset s)
cablefinch_why_rowset_unique s r r' (f, explains, tells) (f', explains', tells') =
    tells ∙ ap words_of (Rowset.explain_unique s f f' explains explains') ∙ sym tells'
