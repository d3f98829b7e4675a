-- Statements that are near the rowset's promises and false, each refuted by an input. Assumes nothing.
use Rattle.std.specs.Prelude.{ℕ, ◌+◌, ◌<◌, ◌≤◌, Bool, true, false, List, [], ◌∷◌, ◌++◌, ◌≡◌, length, get_or, replicate, Result}
use Rattle.words.specs.Word.{bytes_of, Bytes}
use Rattle.wire.specs.Layout.{null_mark, max_size, count_at}
use Rattle.wire_read.specs.Plain.{accepts, plain}
use Rattle.wire_read.specs.Statement.{Decodes, TellsPlain}
use Rattle.wire_read.specs.declared.rowset.Decoded.{Decoded}
use Rattle.wire_write.specs.Statement.{Encodes}
use Rattle.wire.specs.Content.{null}
use Rattle.promises.specs.RowContent.{row_at, rows_of}
use Rattle.promises.specs.RowsetReader.{row_place, Acceptable, EachValue, Roomy}
use Rattle.promises.specs.Rowsets.{PlainAt, rows_read, values_read, WrittenBack}
use Rattle.wire.specs.declared.error.WireError.{WireError}

-- two rows: a null row and an empty one
unfoldable pub two_rows : List ℕ
two_rows = bytes_of 8 2 ++ bytes_of 8 null_mark ++ bytes_of 8 0

unfoldable pub two_empty_rows : List ℕ
two_empty_rows = bytes_of 8 2 ++ bytes_of 8 0 ++ bytes_of 8 0

-- one row of one value: a Boolean whose word is 2; an Any of five bytes whose last padding byte is 8; a Null whose
-- aggregate is 2; an aggregate Null whose length word is 1, and one whose length word is 0
unfoldable pub boolean_of_two : List ℕ
boolean_of_two = bytes_of 8 1 ++ bytes_of 8 1 ++ (5 ∷ 0 ∷ 6 ∷ 0 ∷ []) ++ bytes_of 4 0 ++ bytes_of 8 2

unfoldable pub padding_of_eight : List ℕ
padding_of_eight =
    bytes_of 8 1 ++ bytes_of 8 1 ++ (5 ∷ 0 ∷ 17 ∷ 0 ∷ []) ++ bytes_of 4 5 ++ replicate 5 97 ++ (0 ∷ 0 ∷ 8 ∷ [])

unfoldable pub aggregate_of_two : List ℕ
aggregate_of_two = bytes_of 8 1 ++ bytes_of 8 1 ++ (5 ∷ 0 ∷ 2 ∷ 2 ∷ []) ++ bytes_of 4 0

unfoldable pub null_of_one : List ℕ
null_of_one = bytes_of 8 1 ++ bytes_of 8 1 ++ (5 ∷ 0 ∷ 2 ∷ 1 ∷ []) ++ bytes_of 4 1

unfoldable pub aggregate_null : List ℕ
aggregate_null = bytes_of 8 1 ++ bytes_of 8 1 ++ (5 ∷ 0 ∷ 2 ∷ 1 ∷ []) ++ bytes_of 4 0

-- Not so: a row stands under its neighbour's place.
abbrev pub NotUnderTheNeighbour : Type 0
NotUnderTheNeighbour =
    ((s : List ℕ) (i : ℕ) → i < count_at s 0 → get_or (rows_of s) i null ≡ row_at s (row_place s (i + 1))) → ⊥

-- Not so: a null row is read as an empty one.
abbrev pub NullIsNotEmpty : Type 0
NullIsNotEmpty = rows_of two_rows ≡ rows_of two_empty_rows → ⊥

-- Not so: an input above 2^30 bytes is plain.
abbrev pub LongIsNotPlain : Type 0
LongIsNotPlain = (s : List ℕ) (says : Bool) → TellsPlain s says → max_size < length s → says ≡ false

-- Not so: the same, where all else is plain.
abbrev pub NotWithoutTheBound : Type 0
NotWithoutTheBound =
    ((s : List ℕ) (says : Bool) → TellsPlain s says → Acceptable s → EachValue s (PlainAt s) → says ≡ true) → ⊥

-- Not so: what is plain is written back, whatever room the tables or the output have.
abbrev pub Back : (List ℕ → List ℕ → List ℕ → Type 0) → (List ℕ → List ℕ → Type 0) → Type 0
Back Tables Output =
    (s : List ℕ) (says : Bool)
    (row_table value_table : List ℕ) (r : Result Decoded WireError) (rowTable' valueTable' out : List ℕ) (w : Result ℕ WireError) (after : List ℕ)
    → Bytes s → TellsPlain s says
    → Tables s row_table value_table → Decodes s row_table value_table r rowTable' valueTable'
    → Output s out → Encodes s (rows_read r rowTable') (values_read r valueTable') out w after
    → says ≡ true → WrittenBack s r w after

abbrev pub NotWithoutTheRoom : Type 0
NotWithoutTheRoom =
    (Back (λ (s rows values : List ℕ). Unit {0}) (λ (s out : List ℕ). length s ≤ length out) → ⊥)
    × (Back Roomy (λ (s out : List ℕ). Unit {0}) → ⊥)

-- Not so: what is accepted is plain, whatever its boolean words, its padding, its aggregate bytes or a Null's length
-- word; nor has a Null's aggregate byte to be 0.
abbrev pub AcceptedIsNotPlain : Type 0
AcceptedIsNotPlain =
    (accepts boolean_of_two ≡ true) × (plain boolean_of_two ≡ false)
    × (accepts padding_of_eight ≡ true) × (plain padding_of_eight ≡ false)
    × (accepts aggregate_of_two ≡ true) × (plain aggregate_of_two ≡ false)
    × (accepts null_of_one ≡ true) × (plain null_of_one ≡ false)
    × (plain aggregate_null ≡ true)
