-- What the rowset writer accepts is exactly this, and what it writes is the content's bytes. Assumes nothing.
use Rattle.std.specs.Prelude.{ℕ, ◌+◌, ◌*◌, ◌<◌, ◌≤◌, true, false, List, [], ◌≡◌, ◌⊎◌, length, get_or, Result, Ok, Err}
use Rattle.words.specs.Buffer.{over}
use Rattle.wire.specs.Layout.{null_mark, max_rows, max_values, max_length, max_size, entry_words, boolean, blob, known}
use Rattle.words.specs.declared.outcome.NoRoom as words
use Rattle.words.specs.declared.outcome.Room.TheVariants.{Output}
use Rattle.wire.specs.declared.error.WireError.TheVariants.{NoRoom}
use Rattle.wire_check.specs.Writing.{id_in, type_in, aggregate_in, bits_in, length_in, total}
use Rattle.wire_write.specs.Statement.{Encodes}
use Rattle.wire.specs.Content.{rows_in, bytes_of_rows}
use Rattle.wire.specs.declared.error.WireError.{WireError}

-- the entry at the word k keeps rule 3 of 18 and the limit of 12
pub record Allowed (area values : List ℕ) (k : ℕ) : Type 0 where
  pub id_fits : id_in values k ≤ 65_535
  pub is_known : known (type_in values k) ≡ true
  pub aggregate_bit : aggregate_in values k ≤ 1
  pub boolean_bit : type_in values k ≡ boolean → bits_in values k ≤ 1
  pub null_bits : type_in values k ≡ 2 → bits_in values k ≡ 0
  pub no_length : blob (type_in values k) ≡ false → length_in values k ≡ 0
  pub lies : blob (type_in values k) ≡ true → bits_in values k + length_in values k ≤ length area
  pub short : blob (type_in values k) ≡ true → length_in values k ≤ max_length

-- the bytes that the tables stand for
abbrev pub table_bytes : List ℕ → List ℕ → List ℕ → List ℕ
table_bytes area rows values = bytes_of_rows (rows_in area rows values)

pub record Encodable (area rows values : List ℕ) : Type 0 where
  -- rules 1 and 2: whole entries, as many as the rows have values
  pub whole : length values ≡ entry_words * total rows
  -- rule 3, and 12
  pub entries : (i : ℕ) → i < total rows → Allowed area values (entry_words * i)
  -- 10 and 11
  pub few_rows : length rows ≤ max_rows
  pub counts : (i : ℕ) → i < length rows → (get_or rows i 0 ≡ null_mark) ⊎ (get_or rows i 0 ≤ max_values)
  -- 13
  pub small : length (table_bytes area rows values) ≤ max_size

-- The writer says that it wrote exactly where the tables can be written and the output has the room, and the count that
-- it answers is the length of the bytes; it says 17 exactly where all else passes.
abbrev pub RowsetWriterAccepts : Type 0
RowsetWriterAccepts =
    (area rows values before : List ℕ) (r : Result ℕ WireError) (after : List ℕ) → Encodes area rows values before r after
    → let size = length (table_bytes area rows values) in
    ((n : ℕ) → r ≡ Ok n → Encodable area rows values × (n ≡ size) × (size ≤ length before)
    × (after ≡ over (table_bytes area rows values) before))
    × (Encodable area rows values → size ≤ length before → r ≡ Ok size)
    × ((short : words.NoRoom) → r ≡ Err (NoRoom short) → Encodable area rows values × (length before < size))
    × (Encodable area rows values → length before < size
    → r ≡ Err (NoRoom (record { room = Output; needed = size; given = length before })))
