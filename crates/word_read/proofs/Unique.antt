-- One result for each statement: two results that meet a public function's statement are equal. Assumes nothing.
use mathlib.Core.List.{List}
use Prim.Native.Nat.{ℕ}
use Rattle.words.specs.Word.{word}
use Rattle.words.specs.Statement.{ReadsWord, OneResult}
use Rattle.words.proofs.Unique.{equal_to_one}

pub read_u16_unique : (s : List ℕ) (at : ℕ) → OneResult (ReadsWord 2 s at)
read_u16_unique s at = equal_to_one (word 2 s at)

pub read_u32_unique : (s : List ℕ) (at : ℕ) → OneResult (ReadsWord 4 s at)
read_u32_unique s at = equal_to_one (word 4 s at)

pub read_u64_unique : (s : List ℕ) (at : ℕ) → OneResult (ReadsWord 8 s at)
read_u64_unique s at = equal_to_one (word 8 s at)
