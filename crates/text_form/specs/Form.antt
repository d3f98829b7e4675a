-- Rows as tab-separated text, after document 02, A1: the text of rows as a function of their content, and which rows
-- have a text. Offsets, tables and limits are no part of it, and no reader. Assumes nothing.
use Rattle.std.specs.Prelude.{ℕ, zero, suc, ◌+◌, ◌/◌, ◌%◌, ◌<◌, ◌≤◌, ◌^◌, Bool, true, List, [], ◌∷◌, ◌++◌, ◌≡◌}
use Rattle.words.specs.Decide.{pick, decide, ◌⇒◌, ◌<?◌, ◌=?◌}
use Rattle.words.specs.Text.{digit}
use Rattle.words.specs.Word.{Bytes}
use Rattle.numerals.specs.Statement.{decimal}
use Rattle.wire.specs.Layout.{null_type, int64, uint64, double, boolean, string, any, composite, scalar, blob}
use Rattle.wire.specs.Content.{Content, nothing, word, bytes, Cell, Row, null, values}

abbrev pub tab : ℕ
tab = 9

abbrev pub line_feed : ℕ
line_feed = 10

-- "A null row is the line `#`"
abbrev pub null_sign : ℕ
null_sign = 35

abbrev pub colon : ℕ
colon = 58

-- "`!` if aggregate"
abbrev pub aggregate_sign : ℕ
aggregate_sign = 33

abbrev pub percent_sign : ℕ
percent_sign = 37

-- "Letters: n, i, u, d, b, s, a, c", for the types in document 01's order; another type has none
unfoldable pub letter_of : ℕ → ℕ
letter_of type =
    decide
    (type =? null_type ⇒ 110
    ∷ type =? int64 ⇒ 105
    ∷ type =? uint64 ⇒ 117
    ∷ type =? double ⇒ 100
    ∷ type =? boolean ⇒ 98
    ∷ type =? string ⇒ 115
    ∷ type =? any ⇒ 97
    ∷ type =? composite ⇒ 99
    ∷ [])
    0

-- "Blob bytes outside 0x21 to 0x7e, and the percent sign, and no others, are percent-escaped"
abbrev pub escaped : ℕ → Bool
escaped b = decide (b <? 0x21 ⇒ true ∷ 0x7e <? b ⇒ true ∷ []) (b =? percent_sign)

-- a digit of 0 to 15, A to F being capital
unfoldable pub capital : ℕ → ℕ
capital v = pick (v <? 10) (48 + v) (55 + v)

-- "with two capital digits"
unfoldable pub unit : ℕ → List ℕ
unit b = pick (escaped b) (percent_sign ∷ capital (b / 16) ∷ capital (b % 16) ∷ []) (b ∷ [])

unfoldable pub units : List ℕ → List ℕ
units [] = []
units (b ∷ s) = unit b ++ units s

-- k hex digits, the highest first, a to f being small
unfoldable pub hexes : ℕ → ℕ → List ℕ
hexes zero w = []
hexes (suc k) w = hexes k (w / 16) ++ digit (w % 16) ∷ []

-- "Scalars are 16 lower-case hex digits of their word"
abbrev pub content_text : Content → List ℕ
content_text nothing = []
content_text (word w) = hexes 16 w
content_text (bytes s) = units s

-- "its decimal id without leading zeros, a colon, `!` if aggregate"
unfoldable pub head : ℕ → ℕ → List ℕ
head id aggregate = decimal id ++ colon ∷ pick (aggregate =? 0) [] (aggregate_sign ∷ [])

-- "a type letter, then its content"
unfoldable pub cell_text : Cell → List ℕ
cell_text c = head c.id c.aggregate ++ letter_of c.type ∷ content_text c.content

-- "tabs stand between values", "Every line ends in a line feed": what stands behind a value
unfoldable pub more : List Cell → List ℕ
more [] = line_feed ∷ []
more (c ∷ cells) = tab ∷ cell_text c ++ more cells

-- "an empty row is an empty line"
unfoldable pub row_text : Row → List ℕ
row_text null = null_sign ∷ line_feed ∷ []
row_text (values []) = line_feed ∷ []
row_text (values (c ∷ cells)) = cell_text c ++ more cells

-- "one line per row"
unfoldable pub text : List Row → List ℕ
text [] = []
text (row ∷ rows) = row_text row ++ text rows

-- Rows that have a text: each value's fields fit document 01's tables

abbrev pub FitsContent : ℕ → Content → Type 0
FitsContent type nothing = type ≡ null_type
FitsContent type (word w) = (scalar type ≡ true) × (w < 2 ^ 64) × (type ≡ boolean → w ≤ 1)
FitsContent type (bytes s) = (blob type ≡ true) × Bytes s

pub record FitsCell (c : Cell) : Type 0 where
  pub id_fits : c.id ≤ 65_535
  pub aggregate_bit : c.aggregate ≤ 1
  pub content_fits : FitsContent c.type c.content

abbrev pub FitsCells : List Cell → Type 0
FitsCells [] = Unit {0}
FitsCells (c ∷ cells) = FitsCell c × FitsCells cells

abbrev pub FitsRow : Row → Type 0
FitsRow null = Unit {0}
FitsRow (values cells) = FitsCells cells

abbrev pub FitsRows : List Row → Type 0
FitsRows [] = Unit {0}
FitsRows (row ∷ rows) = FitsRow row × FitsRows rows

-- the text s is that of these rows
abbrev pub IsText : List ℕ → List Row → Type 0
IsText s rows = FitsRows rows × (s ≡ text rows)

-- the texts of the form
abbrev pub Accepted : List ℕ → Type 0
Accepted s = (rows : List Row) × IsText s rows
