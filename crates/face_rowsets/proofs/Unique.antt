-- One result for each statement: two outcomes, with what the lent buffers hold at exit, that meet an exported function's statement
-- are equal. Assumes nothing.
use Prim.Native.Nat.{ℕ}
use mathlib.Core.List.{List}
use Rattle.words.specs.Statement.{OneResult}
use Rattle.words.proofs.Unique.{equal_to_one}
use Rattle.wire_read.specs.Statement.{TellsPlain}
use Rattle.words.specs.declared.outcome.Outcome.{Outcome}
use Rattle.face.proofs.Unique.{equal_to_two, equal_to_three}
use Rattle.face_rowsets.specs.Statement.{DecodesRowset, EncodesRowset, MeasuresRowset, ReadsValue, PacksArea}

pub cablefinch_decode_rowset_unique : (s rows values : List ℕ) → OneResult (λ (x : Outcome × List ℕ × List ℕ). DecodesRowset s rows values x.0 x.1 x.2)
cablefinch_decode_rowset_unique s rows values = equal_to_three _ _ _

pub cablefinch_encode_rowset_unique : (area rows values before : List ℕ) → OneResult (λ (x : Outcome × List ℕ). EncodesRowset area rows values before x.0 x.1)
cablefinch_encode_rowset_unique area rows values before = equal_to_two _ _

pub cablefinch_rowset_size_unique : (area rows values : List ℕ) → OneResult (MeasuresRowset area rows values)
cablefinch_rowset_size_unique area rows values = equal_to_one _

pub cablefinch_read_value_unique : (s : List ℕ) (at : ℕ) → OneResult (ReadsValue s at)
cablefinch_read_value_unique s at = equal_to_one _

pub cablefinch_is_plain_unique : (s : List ℕ) → OneResult (TellsPlain s)
cablefinch_is_plain_unique s = equal_to_one _

pub cablefinch_pack_unique : (area values out : List ℕ) → OneResult (λ (x : Outcome × List ℕ × List ℕ). PacksArea area values out x.0 x.1 x.2)
cablefinch_pack_unique area values out = equal_to_three _ _ _
