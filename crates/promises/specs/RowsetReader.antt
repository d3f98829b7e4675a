-- What the rowset reader accepts is exactly this, and 17 comes exactly where all else passes. Assumes nothing.
use Rattle.std.specs.Prelude.{ℕ, ◌+◌, ◌/◌, ◌≤◌, ◌<◌, true, List, ◌≡◌, ◌⊎◌, length, Result, Ok, Err}
use Rattle.wire.specs.Layout.{null_mark, max_rows, max_values, max_length, entry_words, known, blob, values_in, type_at, length_at, count_at, next_rows, next_value, next_values}
use Rattle.words.specs.declared.outcome.NoRoom as words
use Rattle.words.specs.declared.outcome.Room.TheVariants.{Rows, Values}
use Rattle.wire.specs.declared.error.WireError.TheVariants.{NoRoom}
use Rattle.words.specs.Decide.{Silent, Decides}
use Rattle.words.specs.Note.{answers}
use Rattle.wire_read.specs.Reading.{end_of, values_of, reading_lines}
use Rattle.wire_read.specs.Paper.{paper_decoded}
use Rattle.wire_read.specs.Statement.{Decodes}
use Rattle.wire_read.specs.declared.rowset.Decoded.{Decoded}
use Rattle.wire.specs.declared.error.WireError.{WireError}

-- where row i begins, and where its value j begins
abbrev pub row_place : List ℕ → ℕ → ℕ
row_place s i = next_rows s i 8

abbrev pub value_place : List ℕ → ℕ → ℕ → ℕ
value_place s i j = next_values s j (row_place s i + 8)

-- of each row of an input, and of each value
abbrev pub EachRow : List ℕ → (ℕ → Type 0) → Type 0
EachRow s P = (i : ℕ) → i < count_at s 0 → P (row_place s i)

abbrev pub EachValue : List ℕ → (ℕ → Type 0) → Type 0
EachValue s P = (i j : ℕ) → i < count_at s 0 → j < values_in (count_at s (row_place s i)) → P (value_place s i j)

-- the count of the row at `at` is there, and is the null mark or at most 1,024
pub record RowStands (s : List ℕ) (at : ℕ) : Type 0 where
  pub there : at + 8 ≤ length s
  pub few : (count_at s at ≡ null_mark) ⊎ (count_at s at ≤ max_values)

-- the value at `at` is there, header and payload, of a known type, and if it is a blob not too long
pub record ValueStands (s : List ℕ) (at : ℕ) : Type 0 where
  pub header : at + 8 ≤ length s
  pub is_known : known (type_at s at) ≡ true
  pub short : blob (type_at s at) ≡ true → length_at s at ≤ max_length
  pub payload_there : next_value s at ≤ length s

pub record Acceptable (s : List ℕ) : Type 0 where
  pub there : 8 ≤ length s
  pub few : count_at s 0 ≤ max_rows
  pub rows : EachRow s (RowStands s)
  pub values : EachValue s (ValueStands s)
  pub nothing_behind : length s ≤ end_of s

-- the tables have the room; entries count whole
pub record Roomy (s rows values : List ℕ) : Type 0 where
  pub for_rows : count_at s 0 ≤ length rows
  pub for_values : values_of s ≤ length values / entry_words

-- The reader says that it read exactly where the input is acceptable and the tables have the room, and tells how many
-- rows and values there are; it says 17 exactly where all else passes, for the rows first.
abbrev pub RowsetReaderAccepts : Type 0
RowsetReaderAccepts =
    (s rows values : List ℕ) (r : Result Decoded WireError) (rows' values' : List ℕ) → Decodes s rows values r rows' values'
    → ((n m : ℕ) → r ≡ Ok record { rows = n; values = m } → Acceptable s × Roomy s rows values × (n ≡ count_at s 0) × (m ≡ values_of s))
    × (Acceptable s → Roomy s rows values → r ≡ Ok record { rows = count_at s 0; values = values_of s })
    × ((short : words.NoRoom) → r ≡ Err (NoRoom short) → Acceptable s × (Roomy s rows values → ⊥))
    × (Acceptable s → length rows < count_at s 0
    → r ≡ Err (NoRoom (record { room = Rows; needed = count_at s 0; given = length rows })))
    × (Acceptable s → count_at s 0 ≤ length rows → length values / entry_words < values_of s
    → r ≡ Err (NoRoom (record { room = Values; needed = values_of s; given = length values / entry_words })))

-- The answer is that of one line of the order, the lines before it silent; or all are silent, and the rowset is read.
-- The same line tells what it found (document 02, A9).
abbrev pub RowsetOrderDecides : Type 0
RowsetOrderDecides =
    (s rows values : List ℕ) (r : Result Decoded WireError) (rows' values' : List ℕ) → Decodes s rows values r rows' values'
    → let lines = answers (reading_lines s (length rows) (length values)) in
    Decides lines (paper_decoded r) ⊎ (Silent lines × (r ≡ Ok record { rows = count_at s 0; values = values_of s }))
