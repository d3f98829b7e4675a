-- One result for each statement: two outcomes, with what the lent buffers hold at exit, that meet an exported function's statement
-- are equal. Assumes nothing.
use Prim.Native.Nat.{ℕ}
use mathlib.Core.List.{List}
use Rattle.words.specs.Statement.{OneResult}
use Rattle.words.proofs.Unique.{equal_to_one}
use Rattle.words.specs.declared.outcome.Outcome.{Outcome}
use Rattle.face.proofs.Unique.{equal_to_two, equal_to_three}
use Rattle.face_errors.specs.Statement.{DecodesError, MeasuresError, EncodesError}

pub cablefinch_error_read_unique : (s errors attributes : List ℕ) → OneResult (λ (x : Outcome × List ℕ × List ℕ). DecodesError s errors attributes x.0 x.1 x.2)
cablefinch_error_read_unique s errors attributes = equal_to_three _ _ _

pub cablefinch_error_size_unique : (area errors attributes : List ℕ) → OneResult (MeasuresError area errors attributes)
cablefinch_error_size_unique area errors attributes = equal_to_one _

pub cablefinch_error_write_unique : (area errors attributes before : List ℕ) → OneResult (λ (x : Outcome × List ℕ). EncodesError area errors attributes before x.0 x.1)
cablefinch_error_write_unique area errors attributes before = equal_to_two _ _
