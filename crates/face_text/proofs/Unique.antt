-- One result for each statement: two outcomes, with what the lent buffers hold at exit, that meet an exported function's statement
-- are equal. Assumes nothing.
use Prim.Native.Nat.{ℕ}
use mathlib.Core.List.{List}
use Rattle.words.specs.Statement.{OneResult}
use Rattle.words.proofs.Unique.{equal_to_one}
use Rattle.words.specs.declared.outcome.Outcome.{Outcome}
use Rattle.face.proofs.Unique.{equal_to_two, equal_to_four}
use Rattle.face_text.specs.Statement.{MeasuresText, WritesRowsetText, ReadsRowsetText}

pub cablefinch_text_size_unique : (area rows values : List ℕ) → OneResult (MeasuresText area rows values)
cablefinch_text_size_unique area rows values = equal_to_one _

pub cablefinch_write_text_unique : (area rows values before : List ℕ) → OneResult (λ (x : Outcome × List ℕ). WritesRowsetText area rows values before x.0 x.1)
cablefinch_write_text_unique area rows values before = equal_to_two _ _

pub cablefinch_read_text_unique : (s rows values area : List ℕ) → OneResult (λ (x : Outcome × List ℕ × List ℕ × List ℕ). ReadsRowsetText s rows values area x.0 x.1 x.2 x.3)
cablefinch_read_text_unique s rows values area = equal_to_four _ _ _ _
