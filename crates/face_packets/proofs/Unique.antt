-- One result for each statement: two outcomes, with what the lent buffers hold at exit, that meet an exported function's statement
-- are equal. Assumes nothing.
use Prim.Native.Nat.{ℕ}
use mathlib.Core.List.{List}
use Rattle.words.specs.Statement.{OneResult}
use Rattle.words.proofs.Unique.{equal_to_one}
use Rattle.packet_sum.specs.Statement.{PartChecksumIs}
use Rattle.packet_read.specs.Statement.{default_ceiling}
use Rattle.words.specs.declared.outcome.Outcome.{Outcome}
use Rattle.face.proofs.Unique.{equal_to_two}
use Rattle.face_packets.specs.Statement.{Decodes}

pub cablefinch_decode_with_unique : (mode : ℕ) (s : List ℕ) (limit ceiling : ℕ) (table : List ℕ) → OneResult (λ (x : Outcome × List ℕ). Decodes mode s limit ceiling table x.0 x.1)
cablefinch_decode_with_unique mode s limit ceiling table = equal_to_two _ _

pub cablefinch_decode_unique : (mode : ℕ) (s : List ℕ) (limit : ℕ) (table : List ℕ) → OneResult (λ (x : Outcome × List ℕ). Decodes mode s limit default_ceiling table x.0 x.1)
cablefinch_decode_unique mode s limit table = cablefinch_decode_with_unique mode s limit default_ceiling table

pub cablefinch_part_checksum_unique : (input table : List ℕ) (i : ℕ) → OneResult (PartChecksumIs input table i)
cablefinch_part_checksum_unique input table i = equal_to_one _
