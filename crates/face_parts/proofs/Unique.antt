-- One result for each statement: two outcomes that meet an exported function's statement are equal. Assumes nothing.
use Prim.Native.Nat.{ℕ}
use mathlib.Core.List.{List}
use Rattle.words.specs.Statement.{OneResult}
use Rattle.words.proofs.Unique.{equal_to_one}
use Rattle.face_parts.specs.Statement.{Measures, Validates, LendsPart, Contains}

pub cablefinch_encoded_size_unique : (mode type : ℕ) (area table : List ℕ) → OneResult (Measures mode type area table)
cablefinch_encoded_size_unique mode type area table = equal_to_one _

pub cablefinch_validate_unique : (mode type : ℕ) (area table : List ℕ) → OneResult (Validates mode type area table)
cablefinch_validate_unique mode type area table = equal_to_one _

pub cablefinch_part_unique : (input table : List ℕ) (i : ℕ) → OneResult (LendsPart input table i)
cablefinch_part_unique input table i = equal_to_one _

pub cablefinch_contains_unique : (flags other : ℕ) → OneResult (Contains flags other)
cablefinch_contains_unique flags other = equal_to_one _
