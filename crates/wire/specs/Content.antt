-- The content of a rowset's rows: each row null, or its values; each value its id, type, aggregate flag, and nothing, a
-- word or bytes. It is read off lent tables over a byte area; offsets are no part of it. A rowset's bytes are a
-- function of it. Assumes nothing.
use Rattle.std.specs.Prelude.{ℕ, zero, suc, ◌+◌, ◌*◌, List, [], ◌∷◌, ◌++◌, length, get_or, replicate}
use Rattle.words.specs.Word.{bytes_of}
use Rattle.words.specs.Buffer.{stretch}
use Rattle.words.specs.Decide.{pick, ◌=?◌}
use Rattle.wire.specs.Layout.{null_mark, entry_words, scalar, blob, padding, values_in}

pub data Content : Type 0 where
  -- of a Null
  nothing : Content
  -- the word of a scalar
  word : ℕ → Content
  -- of a String, an Any or a Composite
  bytes : List ℕ → Content

pub record Cell : Type 0 where
  pub id : ℕ
  pub type : ℕ
  pub aggregate : ℕ
  pub content : Content

pub data Row : Type 0 where
  null : Row
  values : List Cell → Row

-- Off lent tables, a blob being a stretch of the byte area

abbrev pub content_in : List ℕ → ℕ → ℕ → ℕ → Content
content_in area type bits n = pick (blob type) (bytes (stretch area bits n)) (pick (scalar type) (word bits) nothing)

-- the value whose entry begins at the word k
abbrev pub cell_in : List ℕ → List ℕ → ℕ → Cell
cell_in area table k =
    record {
      id = get_or table k 0;
      type = get_or table (k + 1) 0;
      aggregate = get_or table (k + 2) 0;
      content = content_in area (get_or table (k + 1) 0) (get_or table (k + 3) 0) (get_or table (k + 4) 0);
    }

unfoldable pub cells_in : List ℕ → List ℕ → ℕ → ℕ → List Cell
cells_in area table zero k = []
cells_in area table (suc n) k = cell_in area table k ∷ cells_in area table n (k + entry_words)

-- the row of this word, whose entries begin at the word k
abbrev pub row_in : List ℕ → List ℕ → ℕ → ℕ → Row
row_in area table count k = pick (count =? null_mark) null (values (cells_in area table count k))

unfoldable pub rows_from : List ℕ → List ℕ → List ℕ → ℕ → List Row
rows_from area [] table k = []
rows_from area (count ∷ rows) table k =
    row_in area table count k ∷ rows_from area rows table (k + entry_words * values_in count)

abbrev pub rows_in : List ℕ → List ℕ → List ℕ → List Row
rows_in area rows table = rows_from area rows table 0

-- The bytes: the row count, then row by row the null mark or its count and its values

abbrev pub length_word : Content → ℕ
length_word nothing = 0
length_word (word n) = 0
length_word (bytes b) = length b

-- what follows a value's header: nothing, a word of eight bytes, or the bytes and zeros to a multiple of eight
abbrev pub content_bytes : Content → List ℕ
content_bytes nothing = []
content_bytes (word n) = bytes_of 8 n
content_bytes (bytes b) = b ++ replicate (padding (length b)) 0

-- id (2), type (1), aggregate (1), length (4), then the payload
abbrev pub cell_bytes : Cell → List ℕ
cell_bytes c =
    bytes_of 2 c.id
    ++ (bytes_of 1 c.type
    ++ (bytes_of 1 c.aggregate ++ (bytes_of 4 (length_word c.content) ++ content_bytes c.content)))

unfoldable pub cells_bytes : List Cell → List ℕ
cells_bytes [] = []
cells_bytes (c ∷ cells) = cell_bytes c ++ cells_bytes cells

abbrev pub row_bytes : Row → List ℕ
row_bytes null = bytes_of 8 null_mark
row_bytes (values cells) = bytes_of 8 (length cells) ++ cells_bytes cells

unfoldable pub rows_bytes : List Row → List ℕ
rows_bytes [] = []
rows_bytes (row ∷ rows) = row_bytes row ++ rows_bytes rows

unfoldable pub bytes_of_rows : List Row → List ℕ
bytes_of_rows rows = bytes_of 8 (length rows) ++ rows_bytes rows
