-- What each exported function on rowsets promises, by name: its outcome is that of the answer that the library's
-- definitions give, and each lent buffer holds afterwards what they say. Assumes nothing.
use Rattle.std.specs.Prelude.{ℕ, List, length}
use Rattle.words.specs.Paper.{Tells}
use Rattle.words.specs.Statement.{Holds}
use Rattle.words.specs.declared.outcome.Outcome.{Outcome}
use Rattle.wire.specs.Layout.{count_at, row_words, value_words, rowset_bytes}
use Rattle.wire_value.specs.ValueOrder.{value_reading}
use Rattle.wire_read.specs.Reading as rowset
use Rattle.wire_check.specs.Writing as rowsetWriting
use Rattle.pack_pairs.specs.Packing.{packing, packed_table, packed_area}

abbrev pub DecodesRowset : List ℕ → List ℕ → List ℕ → Outcome → List ℕ → List ℕ → Type 0
DecodesRowset s rows values r rows' values' =
    let answer = rowset.reading s (length rows) (length values) in
    Tells answer r
    × Holds answer (row_words s (count_at s 0) 8) rows rows'
    × Holds answer (value_words s (count_at s 0) 8) values values'

abbrev pub EncodesRowset : List ℕ → List ℕ → List ℕ → List ℕ → Outcome → List ℕ → Type 0
EncodesRowset area rows values before r after =
    let answer = rowsetWriting.writing area rows values (length before) in
    Tells answer r × Holds answer (rowset_bytes area rows values) before after

abbrev pub MeasuresRowset : List ℕ → List ℕ → List ℕ → Outcome → Type 0
MeasuresRowset area rows values r = Tells (rowsetWriting.measuring area rows values) r

abbrev pub ReadsValue : List ℕ → ℕ → Outcome → Type 0
ReadsValue s at r = Tells (value_reading s at) r

-- the bytes behind a value table packed into a second area
abbrev pub PacksArea : List ℕ → List ℕ → List ℕ → Outcome → List ℕ → List ℕ → Type 0
PacksArea area values out r values' out' =
    let answer = packing area values (length out) in
    Tells answer r × Holds answer (packed_table values) values values' × Holds answer (packed_area area values) out out'
