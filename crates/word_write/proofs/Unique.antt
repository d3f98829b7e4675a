-- One result for each statement: two exits that meet a public function's statement are equal. Assumes nothing.
use mathlib.Core.List.{List}
use Prim.Native.Nat.{ℕ}
use lib.ListN.{replicate}
use Rattle.words.specs.Word.{bytes_of}
use Rattle.words.specs.Buffer.{fitted}
use Rattle.words.specs.Statement.{Leaves, OneResult}
use Rattle.words.proofs.Unique.{equal_to_one}

pub write_u16_unique : (x : ℕ) (before : List ℕ) → OneResult (Leaves (bytes_of 2 x) before)
write_u16_unique x before = equal_to_one (fitted (bytes_of 2 x) before)

pub write_u32_unique : (x : ℕ) (before : List ℕ) → OneResult (Leaves (bytes_of 4 x) before)
write_u32_unique x before = equal_to_one (fitted (bytes_of 4 x) before)

pub write_u64_unique : (x : ℕ) (before : List ℕ) → OneResult (Leaves (bytes_of 8 x) before)
write_u64_unique x before = equal_to_one (fitted (bytes_of 8 x) before)

pub write_bytes_unique : (bytes before : List ℕ) → OneResult (Leaves bytes before)
write_bytes_unique bytes before = equal_to_one (fitted bytes before)

pub write_zeros_unique : (count : ℕ) (before : List ℕ) → OneResult (Leaves (replicate count 0) before)
write_zeros_unique count before = equal_to_one (fitted (replicate count 0) before)
