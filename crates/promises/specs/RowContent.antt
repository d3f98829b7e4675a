-- What the promises on rowsets speak of beside the functions' statements: the content of the rows that stand in an
-- input, by places, and the content that can be written. Assumes nothing.
use Rattle.std.specs.Prelude.{ℕ, zero, suc, ◌+◌, ◌^◌, ◌<◌, ◌≤◌, ◌≡◌, true, List, [], ◌∷◌, length}
use Rattle.words.specs.Buffer.{stretch}
use Rattle.words.specs.Decide.{pick, ◌=?◌}
use Rattle.wire.specs.Layout.{null_mark, max_rows, max_values, max_length, null_type, boolean, scalar, blob, flag, bits_of, id_at, type_at, aggregate_at, length_at, scalar_at, count_at, next_value, next_row}
use Rattle.wire.specs.Content.{Content, nothing, word, bytes, Cell, Row, null, values}

abbrev pub content_at : List ℕ → ℕ → Content
content_at s at =
    pick (blob (type_at s at)) (bytes (stretch s (at + 8) (length_at s at)))
    (pick (scalar (type_at s at)) (word (bits_of (type_at s at) (scalar_at s at))) nothing)

abbrev pub cell_at : List ℕ → ℕ → Cell
cell_at s at =
    record { id = id_at s at; type = type_at s at; aggregate = flag (aggregate_at s at); content = content_at s at }

-- n values from `at` on
unfoldable pub cells_at : List ℕ → ℕ → ℕ → List Cell
cells_at s zero at = []
cells_at s (suc n) at = cell_at s at ∷ cells_at s n (next_value s at)

-- the row whose count stands at `at`
abbrev pub row_at : List ℕ → ℕ → Row
row_at s at = pick (count_at s at =? null_mark) null (values (cells_at s (count_at s at) (at + 8)))

unfoldable pub rows_at : List ℕ → ℕ → ℕ → List Row
rows_at s zero at = []
rows_at s (suc n) at = row_at s at ∷ rows_at s n (next_row s at)

abbrev pub rows_of : List ℕ → List Row
rows_of s = rows_at s (count_at s 0) 8

-- Content that can be written: each field fits its place, and document 01's limits hold

abbrev pub FitsType : ℕ → Content → Type 0
FitsType type nothing = type ≡ null_type
FitsType type (word n) = (scalar type ≡ true) × (n < 2 ^ 64) × (type ≡ boolean → n ≤ 1)
FitsType type (bytes b) = (blob type ≡ true) × (length b ≤ max_length)

pub record GoodCell (c : Cell) : Type 0 where
  pub id_fits : c.id ≤ 65_535
  pub aggregate_bit : c.aggregate ≤ 1
  pub fits_type : FitsType c.type c.content

abbrev pub GoodCells : List Cell → Type 0
GoodCells [] = Unit {0}
GoodCells (c ∷ cells) = GoodCell c × GoodCells cells

abbrev pub GoodRow : Row → Type 0
GoodRow null = Unit {0}
GoodRow (values cells) = (length cells ≤ max_values) × GoodCells cells

abbrev pub GoodRows : List Row → Type 0
GoodRows [] = Unit {0}
GoodRows (row ∷ rows) = GoodRow row × GoodRows rows

abbrev pub Writable : List Row → Type 0
Writable rows = (length rows ≤ max_rows) × GoodRows rows
