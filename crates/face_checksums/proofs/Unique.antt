-- One result for each statement: two outcomes, with what the lent buffers hold at exit, that meet an exported function's statement
-- are equal. Assumes nothing.
use Prim.Native.Nat.{ℕ}
use mathlib.Core.List.{List}
use lib.ListN.{length}
use Rattle.words.specs.Statement.{OneResult}
use Rattle.words.proofs.Unique.{equal_to_one}
use Rattle.crc64.specs.Statement.{ChecksumIs, FoldIs, SwapIs}
use Rattle.crc64_combine.specs.Statement.{CombineIs}
use Rattle.crc64_eight.specs.Statement.{Fold8Is}
use Rattle.checksum.specs.Statement.{UpdatedIs}

pub cablefinch_checksum_unique : (bytes : List ℕ) → OneResult (ChecksumIs bytes)
cablefinch_checksum_unique bytes = equal_to_one _

pub cablefinch_update_unique : (register : ℕ) (bytes : List ℕ) → OneResult (UpdatedIs register bytes)
cablefinch_update_unique register bytes = equal_to_one _

pub cablefinch_finish_unique : (register : ℕ) → OneResult (SwapIs register)
cablefinch_finish_unique register = equal_to_one _

pub cablefinch_fold_unique : (register : ℕ) (bytes : List ℕ) → OneResult (FoldIs register bytes)
cablefinch_fold_unique register bytes = equal_to_one _

pub cablefinch_fold8_unique : (register : ℕ) (bytes : List ℕ) → OneResult (Fold8Is register bytes)
cablefinch_fold8_unique register bytes = equal_to_one _

pub cablefinch_combine_unique : (first second length : ℕ) → OneResult (CombineIs first second length)
cablefinch_combine_unique first second length = equal_to_one _
