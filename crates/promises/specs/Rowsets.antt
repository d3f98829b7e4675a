-- Demand 2 for rowsets: every row in its place. A lookup answers one row per event in the order asked, and a null row
-- for an event without terms. If one were dropped, every later glossary would appear under the wrong title. Assumes
-- nothing.
use Rattle.std.specs.Prelude.{ℕ, ◌+◌, ◌*◌, ◌/◌, ◌^◌, ◌≤◌, ◌<◌, Bool, true, false, List, [], ◌≡◌, length, get_or, take, drop, Result, Ok, Err}
use Rattle.words.specs.Buffer.{stretch, over}
use Rattle.words.specs.Word.{Bytes}
use Rattle.wire.specs.Layout.{max_size, entry_words, boolean, scalar, blob, padding, flag, values_in, type_at, aggregate_at, length_at, scalar_at, count_at, value_count, entries}
use Rattle.wire_read.specs.Reading.{values_of}
use Rattle.wire_read.specs.Statement.{Decodes, TellsPlain}
use Rattle.wire_read.specs.declared.rowset.Decoded.{Decoded}
use Rattle.wire_write.specs.Statement.{Encodes}
use Rattle.wire.specs.Content.{Row, null, rows_in, bytes_of_rows}
use Rattle.promises.specs.RowContent.{row_at, rows_of, Writable}
use Rattle.promises.specs.RowsetReader.{row_place, EachRow, EachValue, Acceptable, Roomy}
use Rattle.wire.specs.declared.error.WireError.{WireError}

-- What `decode_rowset` reads: as many rows and values as it tells; row i of the tables is what stands at row i of the
-- input, for every i, a null row too, its word the count that stands there and its entries those of the values behind
-- that count; together the tables hold the input's content; and the words past the entries are kept.
abbrev pub RowsInOrder : Type 0
RowsInOrder =
    (s rows values : List ℕ) (n m : ℕ) (rows' values' : List ℕ) → Decodes s rows values (Ok record { rows = n; values = m }) rows' values'
    → (n ≡ count_at s 0)
    × (m ≡ values_of s)
    × ((i : ℕ) → i < n → get_or rows' i 0 ≡ count_at s (row_place s i))
    × ((i : ℕ) → i < n
    → stretch values' (entry_words * value_count s i 8) (entry_words * values_in (count_at s (row_place s i)))
    ≡ entries s (values_in (count_at s (row_place s i))) (row_place s i + 8))
    × (rows_in s (take n rows') values' ≡ rows_of s)
    × (drop n rows' ≡ drop n rows)
    × (drop (entry_words * m) values' ≡ drop (entry_words * m) values)

-- row i of an input's content is the row that stands at row i
abbrev pub RowsByPlace : Type 0
RowsByPlace = (s : List ℕ) (i : ℕ) → i < count_at s 0 → get_or (rows_of s) i null ≡ row_at s (row_place s i)

-- The bytes of content that can be written are accepted and hold that content, nulls and empties each in their place.
abbrev pub RowsetRoundTrip : Type 0
RowsetRoundTrip = (rows : List Row) → Writable rows → Acceptable (bytes_of_rows rows) × (rows_of (bytes_of_rows rows) ≡ rows)

-- What `encode_rowset` wrote, `decode_rowset` reads into tables that have the room: the same rows, offsets apart, and
-- as many; and `is_plain` says yes. (A table's words are of 64 bits.)
abbrev pub RowsetEncodeThenDecode : Type 0
RowsetEncodeThenDecode =
    (area rows values out : List ℕ) (n : ℕ) (after : List ℕ)
    (row_table value_table : List ℕ) (r : Result Decoded WireError) (rowTable' valueTable' : List ℕ) (says : Bool)
    → ((i : ℕ) → get_or values i 0 < 2 ^ 64)
    → Encodes area rows values out (Ok n) after
    → length rows ≤ length row_table → length values ≤ length value_table
    → Decodes (take n after) row_table value_table r rowTable' valueTable'
    → TellsPlain (take n after) says
    → (r ≡ Ok record { rows = length rows; values = length values / entry_words })
    × (rowTable' ≡ over rows row_table)
    × (rows_in (take n after) (take (length rows) rowTable') valueTable' ≡ rows_in area rows values)
    × (says ≡ true)

-- Two inputs that differ only in padding, in the length words of types 2 to 6, in which non-zero byte an aggregate is
-- or which non-zero word a boolean is: every other byte is the same.

-- the n bytes from `from` on are the same
abbrev pub Agree : List ℕ → List ℕ → ℕ → ℕ → Type 0
Agree s t from n = (i : ℕ) → i < n → get_or s (from + i) 0 ≡ get_or t (from + i) 0

pub record SameValue (s t : List ℕ) (at : ℕ) : Type 0 where
  pub id : Agree s t at 2
  pub type : Agree s t (at + 2) 1
  pub aggregate : flag (aggregate_at s at) ≡ flag (aggregate_at t at)
  pub blob_length : blob (type_at s at) ≡ true → Agree s t (at + 4) 4
  pub blob_bytes_lem : blob (type_at s at) ≡ true → Agree s t (at + 8) (length_at s at)
  pub scalar_word : scalar (type_at s at) ≡ true → (type_at s at ≡ boolean → ⊥) → Agree s t (at + 8) 8
  pub boolean_word : type_at s at ≡ boolean → flag (scalar_at s at) ≡ flag (scalar_at t at)

pub record DifferOnlyThere (s t : List ℕ) : Type 0 where
  pub size : length s ≡ length t
  pub row_count : Agree s t 0 8
  pub counts : EachRow s (λ (at : ℕ). Agree s t at 8)
  pub values : EachValue s (SameValue s t)

-- They read alike: the same answer, the same tables, the same content, blobs' bytes too.
abbrev pub IgnoredBytes : Type 0
IgnoredBytes =
    (s t : List ℕ) → DifferOnlyThere s t
    → (rows_of s ≡ rows_of t)
    × ((rows values : List ℕ) (r r' : Result Decoded WireError) (rows' values' rows'' values'' : List ℕ)
    → Decodes s rows values r rows' values' → Decodes t rows values r' rows'' values''
    → (r ≡ r') × (rows' ≡ rows'') × (values' ≡ values''))

-- The plain form, document 01: "every aggregate byte is 0 or 1, the four scalar types have length word 0, boolean words
-- are 0 or 1, and padding is zero"; document 02, A2, of a Null's length word: "That word must be zero too." So every
-- type but the blobs' has 0 there.
pub record PlainAt (s : List ℕ) (at : ℕ) : Type 0 where
  pub aggregate_byte : aggregate_at s at ≤ 1
  pub length_word_lem : blob (type_at s at) ≡ false → length_at s at ≡ 0
  pub boolean_word : type_at s at ≡ boolean → scalar_at s at ≤ 1
  pub padding_zero : blob (type_at s at) ≡ true → (i : ℕ) → i < padding (length_at s at)
      → get_or s (at + 8 + length_at s at + i) 0 ≡ 0

-- `is_plain` says yes exactly where the input is at most 2^30 bytes, the reader accepts it, room aside, and every value
-- is plain.
abbrev pub PlainExactly : Type 0
PlainExactly =
    (s : List ℕ) (says : Bool) → TellsPlain s says
    → (says ≡ true → (length s ≤ max_size) × Acceptable s × EachValue s (PlainAt s))
    × (length s ≤ max_size → Acceptable s → EachValue s (PlainAt s) → says ≡ true)

-- What is written has the plain form.
abbrev pub WrittenIsPlain : Type 0
WrittenIsPlain =
    (rows : List Row) (says : Bool) → Writable rows → length (bytes_of_rows rows) ≤ max_size
    → TellsPlain (bytes_of_rows rows) says → says ≡ true

-- What was read: the entries that the answer tells of the tables; where reading refused, none.
abbrev pub rows_read : Result Decoded WireError → List ℕ → List ℕ
rows_read (Ok read) table = take read.rows table
rows_read (Err refusal) table = []

abbrev pub values_read : Result Decoded WireError → List ℕ → List ℕ
values_read (Ok read) table = take (entry_words * read.values) table
values_read (Err refusal) table = []

-- it was read, it was written, and the bytes written are the input
abbrev pub WrittenBack : List ℕ → Result Decoded WireError → Result ℕ WireError → List ℕ → Type 0
WrittenBack s (Ok read) (Ok size) after = take size after ≡ s
WrittenBack s (Ok read) (Err refusal) after = ⊥
WrittenBack s (Err refusal) written after = ⊥

-- Document 02, A2: "the check says yes exactly when the input equals what the writer produces for the rows read from
-- it". The reader has tables with the room, the writer is given what was read, the input as its area, and an output
-- with room for the input. (An input's bytes are below 256.)
abbrev pub PlainIsWhatTheWriterWrites : Type 0
PlainIsWhatTheWriterWrites =
    (s : List ℕ) (says : Bool)
    (row_table value_table : List ℕ) (r : Result Decoded WireError) (rowTable' valueTable' out : List ℕ) (w : Result ℕ WireError) (after : List ℕ)
    → Bytes s → TellsPlain s says
    → Roomy s row_table value_table → Decodes s row_table value_table r rowTable' valueTable'
    → length s ≤ length out → Encodes s (rows_read r rowTable') (values_read r valueTable') out w after
    → (says ≡ true → WrittenBack s r w after) × (WrittenBack s r w after → says ≡ true)

-- What a cache relies on that compares bytes: of inputs with the same rows (row words, ids, types, aggregates, scalar
-- words, blobs by their bytes, offsets apart) one alone is plain.
abbrev pub OnePlainForm : Type 0
OnePlainForm = (s t : List ℕ) → Bytes s → Bytes t → TellsPlain s true → TellsPlain t true → rows_of s ≡ rows_of t → s ≡ t
