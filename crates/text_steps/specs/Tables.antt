-- What a text's rows fill, after document 02, A1: "Reading lays blobs back to back in a lent area". The words of the
-- rows, the entries of their values and the area's bytes, each from the front, as functions of the rows. Assumes
-- nothing.
use Rattle.std.specs.Prelude.{ℕ, ◌+◌, List, [], ◌∷◌, ◌++◌, map, length}
use Rattle.wire.specs.Layout.{null_mark}
use Rattle.wire.specs.Content.{Content, nothing, word, bytes, Cell, Row, null, values}

-- a row's count, or the mark of a null row
abbrev pub row_word : Row → ℕ
row_word null = null_mark
row_word (values cells) = length cells

abbrev pub cells_of : Row → List Cell
cells_of null = []
cells_of (values cells) = cells

-- the values of all rows, in order
unfoldable pub all_cells : List Row → List Cell
all_cells [] = []
all_cells (row ∷ rows) = cells_of row ++ all_cells rows

abbrev pub blob_of : Content → List ℕ
blob_of nothing = []
blob_of (word w) = []
blob_of (bytes s) = s

-- the area: one blob behind the other, none left out
unfoldable pub blobs : List Cell → List ℕ
blobs [] = []
blobs (c ∷ cells) = blob_of c.content ++ blobs cells

-- the scalar's word, or the offset at which the blob lies
abbrev pub fourth_word : ℕ → Content → ℕ
fourth_word offset nothing = 0
fourth_word offset (word w) = w
fourth_word offset (bytes s) = offset

abbrev pub fifth_word : Content → ℕ
fifth_word nothing = 0
fifth_word (word w) = 0
fifth_word (bytes s) = length s

-- the entries of values whose blobs begin at this offset
unfoldable pub entries_from : ℕ → List Cell → List ℕ
entries_from offset [] = []
entries_from offset (c ∷ cells) =
    c.id ∷ c.type ∷ c.aggregate ∷ fourth_word offset c.content ∷ fifth_word c.content
    ∷ entries_from (offset + length (blob_of c.content)) cells

unfoldable pub row_table : List Row → List ℕ
row_table rows = map row_word rows

unfoldable pub value_table : List Row → List ℕ
value_table rows = entries_from 0 (all_cells rows)

unfoldable pub area_bytes : List Row → List ℕ
area_bytes rows = blobs (all_cells rows)
