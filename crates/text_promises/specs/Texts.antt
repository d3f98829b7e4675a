-- The promises of document 02's A1, over the statements of `text_size`, `write_text`, `count_text` and `read_text`.
-- Assumes nothing.
use Rattle.std.specs.Prelude.{◌≡◌, List, [], ◌∷◌, ℕ, ◌*◌, ◌/◌, ◌^◌, ◌<◌, ◌≤◌, length, get_or, take, Result, Ok, Err}
use Rattle.words.specs.Buffer.{over}
use Rattle.words.specs.Word.{Bytes}
use Rattle.places.specs.Place.{Place}
use Rattle.wire.specs.Layout.{entry_words, max_rows, max_values, max_length, max_size}
use Rattle.wire.specs.Content.{Cell, Row, rows_in, bytes_of_rows}
use Rattle.wire.specs.declared.error.WireError.{WireError}
use Rattle.wire.specs.declared.error.WireError.TheVariants.{Truncated, TooManyRows, TooManyValues, ValueTooLong, RowsetTooLarge, UnknownValueType, TrailingBytes, NoRoom, BadTable}
use Rattle.wire_check.specs.Statement.{Measures}
use Rattle.wire_write.specs.Statement.{Encodes}
use Rattle.text_form.specs.Form.{IsText, Accepted}
use Rattle.text_size.specs.Statement.{SizesText}
use Rattle.text_write.specs.Statement.{WritesText}
use Rattle.text_steps.specs.Tables.{blob_of, cells_of, all_cells, area_bytes}
use Rattle.text_walk.specs.Statement.{Counts}
use Rattle.text_walk.specs.declared.error.TextError.{TextError}
use Rattle.text_walk.specs.declared.error.TextError.TheVariants.{BadText}
use Rattle.text_walk.specs.declared.walk.Walked.{Walked}
use Rattle.text_read.specs.Statement.{ReadsText}

-- Document 01's limits, as rows keep them: at most so many values in a row and so many bytes in a blob; so many rows,
-- and a rowset
-- of so many bytes

abbrev pub CellsWithin : List Cell → Type 0
CellsWithin [] = Unit {0}
CellsWithin (c ∷ cells) = (length (blob_of c.content) ≤ max_length) × CellsWithin cells

abbrev pub RowsWithin : List Row → Type 0
RowsWithin [] = Unit {0}
RowsWithin (row ∷ rows) = (length (cells_of row) ≤ max_values) × CellsWithin (cells_of row) × RowsWithin rows

abbrev pub WithinLimits : List Row → Type 0
WithinLimits rows = RowsWithin rows × (length rows ≤ max_rows) × (length (bytes_of_rows rows) ≤ max_size)

-- so many rows, values and blob bytes
abbrev pub counted : ℕ → ℕ → ℕ → Result Walked TextError
counted n m k = Ok record { rows = n; values = m; bytes = k }

-- the texts of the form within the limits are counted, and no others: what is counted is the text of rows with these
-- counts, and
-- what 19 refuses is the text of no rows
abbrev pub CountAcceptsExactly : Type 0
CountAcceptsExactly =
    (s : List ℕ) (r : Result Walked TextError) → Counts s r
    → ((n m k : ℕ) → r ≡ counted n m k
    → (content : List Row) × IsText s content × WithinLimits content × (n ≡ length content)
    × (m ≡ length (all_cells content)) × (k ≡ length (area_bytes content)))
    × ((content : List Row) → IsText s content → WithinLimits content
    → r ≡ counted (length content) (length (all_cells content)) (length (area_bytes content)))
    × ((place : ℕ) → r ≡ Err (BadText place) → Accepted s → ⊥)

-- room for these rows in tables of so many words and in an area of so many bytes
abbrev pub HasRoom : List Row → List ℕ → List ℕ → List ℕ → Type 0
HasRoom content rows values area =
    (length content ≤ length rows) × (length (all_cells content) ≤ length values / entry_words)
    × (length (area_bytes content) ≤ length area)

-- and so of reading: limits and room aside, exactly the form is taken
abbrev pub TextAcceptsExactly : Type 0
TextAcceptsExactly =
    (s rows values area : List ℕ) (r : Result Walked TextError) (rows' values' area' : List ℕ)
    → ReadsText s rows values area r rows' values' area'
    → ((n m k : ℕ) → r ≡ counted n m k
    → (content : List Row) × IsText s content × WithinLimits content × HasRoom content rows values area
    × (n ≡ length content) × (m ≡ length (all_cells content)) × (k ≡ length (area_bytes content)))
    × ((content : List Row) → IsText s content → WithinLimits content → HasRoom content rows values area
    → r ≡ counted (length content) (length (all_cells content)) (length (area_bytes content)))
    × ((place : ℕ) → r ≡ Err (BadText place) → Accepted s → ⊥)

-- "the first byte that no continuation could mend, or at its length": some text of the form begins with the bytes
-- before the
-- place, and none with these and the byte at it
abbrev pub CountPlace : Type 0
CountPlace =
    (s : List ℕ) (r : Result Walked TextError) → Counts s r → (place : ℕ) → r ≡ Err (BadText place)
    → Place Accepted s place

abbrev pub TextPlace : Type 0
TextPlace =
    (s rows values area : List ℕ) (r : Result Walked TextError) (rows' values' area' : List ℕ)
    → ReadsText s rows values area r rows' values' area'
    → (place : ℕ) → r ≡ Err (BadText place) → Place Accepted s place

-- a refusal keeps both tables and the area
abbrev pub TextRefusalKeeps : Type 0
TextRefusalKeeps =
    (s rows values area : List ℕ) (refusal : TextError) (rows' values' area' : List ℕ)
    → ReadsText s rows values area (Err refusal) rows' values' area'
    → (rows' ≡ rows) × (values' ≡ values) × (area' ≡ area)

-- "Text this writer produces goes to tables and back unchanged", and so does every text that is read: what reading
-- filled, written
-- into an output with room, is that text
abbrev pub TextAndBack : Type 0
TextAndBack =
    (s rows values area : List ℕ) (n m k : ℕ) (rows' values' area' : List ℕ)
    → ReadsText s rows values area (counted n m k) rows' values' area'
    → (before : List ℕ) (r : Result ℕ WireError) (after : List ℕ)
    → WritesText (take k area') (take n rows') (take (entry_words * m) values') before r after
    → length s ≤ length before → (r ≡ Ok (length s)) × (after ≡ over s before)

-- no text is that of two lists of rows
abbrev pub TextOnce : Type 0
TextOnce = (s : List ℕ) (rows rows' : List Row) → IsText s rows → IsText s rows' → rows ≡ rows'

-- "Writing text refuses as the rowset writer does": both sizes refuse alike
abbrev pub SizesRefuseAlike : Type 0
SizesRefuseAlike =
    (area rows values : List ℕ) (r r₀ : Result ℕ WireError) → SizesText area rows values r → Measures area rows values r₀
    → (refusal : WireError) → (r ≡ Err refusal → r₀ ≡ Err refusal)
    × (r₀ ≡ Err refusal → r ≡ Err refusal)

-- any refusal but 17
abbrev pub NotForRoom : WireError → Type 0
NotForRoom (Truncated offset needed) = Unit {0}
NotForRoom (TooManyRows count) = Unit {0}
NotForRoom (TooManyValues row count) = Unit {0}
NotForRoom (ValueTooLong n) = Unit {0}
NotForRoom (RowsetTooLarge size) = Unit {0}
NotForRoom (UnknownValueType code) = Unit {0}
NotForRoom (TrailingBytes n) = Unit {0}
NotForRoom (NoRoom short) = ⊥
NotForRoom (BadTable rule position) = Unit {0}

-- and so do both writers, 17 apart, into outputs of any size
abbrev pub WritersRefuseAlike : Type 0
WritersRefuseAlike =
    (area rows values before after before₀ after₀ : List ℕ) (r r₀ : Result ℕ WireError)
    → WritesText area rows values before r after → Encodes area rows values before₀ r₀ after₀
    → (refusal : WireError) → NotForRoom refusal → (r ≡ Err refusal → r₀ ≡ Err refusal)
    × (r₀ ≡ Err refusal → r ≡ Err refusal)

-- each word of a table is one of 64 bits
abbrev pub Words : List ℕ → Type 0
Words values = (i : ℕ) → get_or values i 0 < 2 ^ 64

-- what was written is the text of the tables' rows, null and empty ones in their places
abbrev pub WrittenIsText : Type 0
WrittenIsText =
    (area rows values before after : List ℕ) (n : ℕ) → Bytes area → Words values
    → WritesText area rows values before (Ok n) after
    → IsText (take n after) (rows_in area rows values)

-- "tables to text and back give the same rows, offsets apart": what was written is read where there is room, the row
-- table comes
-- back word for word, null and empty rows in their places, and the tables hold the same rows
abbrev pub TablesAndBack : Type 0
TablesAndBack =
    (area rows values before after : List ℕ) (n : ℕ) → Bytes area → Words values
    → WritesText area rows values before (Ok n) after
    → (rows₀ values₀ area₀ : List ℕ) (r : Result Walked TextError) (rows' values' area' : List ℕ)
    → ReadsText (take n after) rows₀ values₀ area₀ r rows' values' area'
    → HasRoom (rows_in area rows values) rows₀ values₀ area₀
    → let k = length (area_bytes (rows_in area rows values)) in
    (r ≡ counted (length rows) (length values / entry_words) k)
    × (take (length rows) rows' ≡ rows)
    × (rows_in (take k area') (take (length rows) rows') (take (length values) values') ≡ rows_in area rows values)

-- so the text that was written goes to tables and back unchanged
abbrev pub WrittenAndBack : Type 0
WrittenAndBack =
    (area rows values before after : List ℕ) (n : ℕ) → Bytes area → Words values
    → WritesText area rows values before (Ok n) after
    → (rows₀ values₀ area₀ : List ℕ) (r : Result Walked TextError) (rows' values' area' : List ℕ)
    → ReadsText (take n after) rows₀ values₀ area₀ r rows' values' area'
    → HasRoom (rows_in area rows values) rows₀ values₀ area₀
    → let k = length (area_bytes (rows_in area rows values)) in
    (before₂ : List ℕ) (r₂ : Result ℕ WireError) (after₂ : List ℕ)
    → WritesText (take k area') (take (length rows) rows') (take (length values) values') before₂ r₂ after₂
    → n ≤ length before₂ → (r₂ ≡ Ok n) × (take n after₂ ≡ take n after)
