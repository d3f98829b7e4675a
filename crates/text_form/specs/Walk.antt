-- The form read byte by byte: what was read so far, and which bytes fit there. It is the readings' table of states as a
-- machine, whose state holds the rows read so far. (proofs/Exactly.antt: it takes exactly the texts of the form, and
-- stops where a text goes wrong.) Assumes nothing.
use Rattle.std.specs.Prelude.{ℕ, zero, suc, ◌+◌, ◌-◌, ◌*◌, Bool, true, false, ◌&&◌, not, List, [], ◌∷◌, ◌++◌}
use Rattle.words.specs.Decide.{pick, decide, ◌⇒◌, ◌<?◌, ◌=?◌}
use Rattle.places.specs.Machine.{Move, on, off, Machine}
use Rattle.wire.specs.Layout.{null_type, int64, uint64, double, boolean, string, any, composite, scalar, blob}
use Rattle.wire.specs.Content.{Content, nothing, word, bytes, Cell, Row, null, values}
use Rattle.text_form.specs.Form.{tab, line_feed, null_sign, colon, aggregate_sign, percent_sign, escaped}

pub data Phase : Type 0 where
  -- before a value: at the start of a line, or behind a tab
  fresh : Phase
  -- in an id
  number : ℕ → Phase
  -- behind the colon, or behind the aggregate sign
  letter : ℕ → ℕ → Phase
  -- in a scalar of this id, aggregate and type: one more than so many digits are to come, and the word so far
  digits : ℕ → ℕ → ℕ → ℕ → ℕ → Phase
  -- a value could end here
  full : Cell → Phase
  -- in a blob of this id, aggregate and type: behind the percent sign, and behind the first digit of an escape
  percent : ℕ → ℕ → ℕ → List ℕ → Phase
  second : ℕ → ℕ → ℕ → List ℕ → ℕ → Phase

-- the rows so far; the values so far of a row that has begun or is to begin
pub data State : Type 0 where
  -- behind the sign of a null row
  hash : List Row → State
  at : List Row → List Cell → Phase → State

abbrev pub start : State
start = at [] [] fresh

abbrev pub Go : Type 0
Go = Move State (Unit {0})

abbrev pub cell_of : ℕ → ℕ → ℕ → Content → Cell
cell_of id aggregate type content = record { id = id; type = type; aggregate = aggregate; content = content }

-- the type of a letter; 0 for any other byte
unfoldable pub type_of : ℕ → ℕ
type_of b =
    decide
    (b =? 110 ⇒ null_type
    ∷ b =? 105 ⇒ int64
    ∷ b =? 117 ⇒ uint64
    ∷ b =? 100 ⇒ double
    ∷ b =? 98 ⇒ boolean
    ∷ b =? 115 ⇒ string
    ∷ b =? 97 ⇒ any
    ∷ b =? 99 ⇒ composite
    ∷ [])
    0

-- the value of a small or a capital digit; 16 for any other byte
unfoldable pub small_value : ℕ → ℕ
small_value b = decide (b <? 48 ⇒ 16 ∷ b <? 58 ⇒ (b - 48) ∷ b <? 97 ⇒ 16 ∷ b <? 103 ⇒ (b - 87) ∷ []) 16

unfoldable pub capital_value : ℕ → ℕ
capital_value b = decide (b <? 48 ⇒ 16 ∷ b <? 58 ⇒ (b - 48) ∷ b <? 65 ⇒ 16 ∷ b <? 71 ⇒ (b - 55) ∷ []) 16

abbrev pub is_empty : List Cell → Bool
is_empty [] = true
is_empty (c ∷ cells) = false

-- a digit of this value fits a scalar of which k digits are to come behind it: a boolean is zeros and then 0 or 1
abbrev pub fits_word : ℕ → ℕ → ℕ → Bool
fits_word type k v = decide (15 <? v ⇒ false ∷ not (type =? boolean) ⇒ true ∷ k =? 0 ⇒ v <? 2 ∷ []) (v =? 0)

-- the first digit of an escape: some byte with that high digit is escaped
abbrev pub fits_high : ℕ → Bool
fits_high h = decide (h <? 3 ⇒ true ∷ h <? 7 ⇒ false ∷ []) (h <? 16)

-- behind a scalar's digit
abbrev pub behind_digit : List Row → List Cell → ℕ → ℕ → ℕ → ℕ → ℕ → State
behind_digit rows cells id aggregate type zero w = at rows cells (full (cell_of id aggregate type (word w)))
behind_digit rows cells id aggregate type (suc k) w = at rows cells (digits id aggregate type k w)

-- a byte that goes on with a blob
abbrev pub onward : List Row → List Cell → ℕ → ℕ → ℕ → Content → ℕ → Go
onward rows cells id aggregate type nothing b = off tt
onward rows cells id aggregate type (word w) b = off tt
onward rows cells id aggregate type (bytes s) b =
    decide
    (b =? percent_sign ⇒ on (at rows cells (percent id aggregate type s))
    ∷ escaped b ⇒ off tt
    ∷ [])
    (on (at rows cells (full (cell_of id aggregate type (bytes (s ++ b ∷ []))))))

unfoldable pub step : State → ℕ → Go
step (hash rows) b = pick (b =? line_feed) (on (at (rows ++ null ∷ []) [] fresh)) (off tt)
step (at rows cells fresh) b =
    decide
    ((is_empty cells && b =? line_feed) ⇒ on (at (rows ++ values [] ∷ []) [] fresh)
    ∷ (is_empty cells && b =? null_sign) ⇒ on (hash rows)
    ∷ b <? 48 ⇒ off tt
    ∷ b <? 58 ⇒ on (at rows cells (number (b - 48)))
    ∷ [])
    (off tt)
step (at rows cells (number n)) b =
    decide
    (b =? colon ⇒ on (at rows cells (letter n 0))
    ∷ b <? 48 ⇒ off tt
    ∷ 57 <? b ⇒ off tt
    ∷ n =? 0 ⇒ off tt
    ∷ 65_535 <? (n * 10 + (b - 48)) ⇒ off tt
    ∷ [])
    (on (at rows cells (number (n * 10 + (b - 48)))))
step (at rows cells (letter id aggregate)) b =
    decide
    ((b =? aggregate_sign && aggregate =? 0) ⇒ on (at rows cells (letter id 1))
    ∷ type_of b =? null_type ⇒ on (at rows cells (full (cell_of id aggregate null_type nothing)))
    ∷ scalar (type_of b) ⇒ on (at rows cells (digits id aggregate (type_of b) 15 0))
    ∷ blob (type_of b) ⇒ on (at rows cells (full (cell_of id aggregate (type_of b) (bytes []))))
    ∷ [])
    (off tt)
step (at rows cells (digits id aggregate type k w)) b =
    pick (fits_word type k (small_value b)) (on (behind_digit rows cells id aggregate type k (w * 16 + small_value b)))
    (off tt)
step (at rows cells (full c)) b =
    decide
    (b =? tab ⇒ on (at rows (cells ++ c ∷ []) fresh)
    ∷ b =? line_feed ⇒ on (at (rows ++ values (cells ++ c ∷ []) ∷ []) [] fresh)
    ∷ [])
    (onward rows cells c.id c.aggregate c.type c.content b)
step (at rows cells (percent id aggregate type s)) b =
    pick (fits_high (capital_value b)) (on (at rows cells (second id aggregate type s (capital_value b)))) (off tt)
step (at rows cells (second id aggregate type s h)) b =
    decide
    (15 <? capital_value b ⇒ off tt
    ∷ escaped (h * 16 + capital_value b) ⇒ on
    (at rows cells (full (cell_of id aggregate type (bytes (s ++ (h * 16 + capital_value b) ∷ [])))))
    ∷ [])
    (off tt)

-- the text may end at the start of a line alone
unfoldable pub close : State → Move (List Row) (Unit {0})
close (hash rows) = off tt
close (at rows [] fresh) = on rows
close (at rows (c ∷ cells) fresh) = off tt
close (at rows cells (number n)) = off tt
close (at rows cells (letter id aggregate)) = off tt
close (at rows cells (digits id aggregate type k w)) = off tt
close (at rows cells (full c)) = off tt
close (at rows cells (percent id aggregate type s)) = off tt
close (at rows cells (second id aggregate type s h)) = off tt

abbrev pub walk : Machine State (List Row) (Unit {0})
walk = record { step = step; close = close }
