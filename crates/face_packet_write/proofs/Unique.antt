-- One result for the statement: two outcomes, with what the output holds at exit, that meet the exported function's statement are
-- equal. Assumes nothing.
use Prim.Native.Nat.{ℕ}
use mathlib.Core.List.{List}
use Rattle.words.specs.Statement.{OneResult}
use Rattle.words.specs.declared.outcome.Outcome.{Outcome}
use Rattle.face.proofs.Unique.{equal_to_two}
use Rattle.face_packet_write.specs.Statement.{Encodes}

pub cablefinch_encode_unique : (mode type flags : ℕ) (id area table out : List ℕ) → OneResult (λ (x : Outcome × List ℕ). Encodes mode type flags id area table out x.0 x.1)
cablefinch_encode_unique mode type flags id area table out = equal_to_two _ _
