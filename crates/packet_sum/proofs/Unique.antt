-- One result for each statement: two checksums of one part are equal. Assumes nothing.
use Prim.Native.Nat.{ℕ}
use mathlib.Core.List.{List}
use Rattle.words.specs.Statement.{OneResult}
use Rattle.words.proofs.Unique.{equal_to_one}
use Rattle.packet_sum.specs.Statement.{PartChecksumIs}

pub part_checksum_unique : (input table : List ℕ) (i : ℕ) → OneResult (PartChecksumIs input table i)
part_checksum_unique input table i = equal_to_one _
