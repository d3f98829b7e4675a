-- What the private stages of the walk hand on: nobody has to believe it. Each stage says how the reading goes on behind
-- it, for whatever rows and values were read before, or how it stops. Assumes nothing.
use Rattle.std.specs.Prelude.{ℕ, ◌+◌, ◌-◌, ◌*◌, ◌≤◌, ◌<◌, true, ◌≡◌, List, [], ◌∷◌, ◌++◌, length, get_or, Result, Ok, Err}
use Rattle.std.proofs.Common.{inr}
use Rattle.words.specs.Answer.{refuse}
use Rattle.places.specs.Machine.{stopped}
use Rattle.wire.specs.Layout.{known, max_rows, max_size, max_length}
use Rattle.wire.specs.Paper.{paper}
use Rattle.wire.specs.Content.{word, bytes, Cell, Row, cell_bytes, row_bytes, bytes_of_rows}
use Rattle.text_form.specs.Form.{escaped}
use Rattle.text_form.specs.Walk.{fresh, number, letter, digits, full, percent, State, hash, at, cell_of, small_value, fits_word, fits_high}
use Rattle.text_form.specs.Limits.{size_with}
use Rattle.text_steps.specs.Tables.{blob_of, blobs, cells_of}
use Rattle.text_steps.specs.Stages.{Reading, from, bad_at, opened, Signless, EndsThere, Settled, behind_value}
use Rattle.text_walk.specs.declared.error.TextError.{TextError}
use Rattle.text_walk.specs.declared.error.TextError.TheVariants.{BadText, Limit}
use Rattle.text_walk.specs.declared.error.BadPlace.{BadPlace}
use Rattle.text_walk.specs.declared.check.Head.{Head}
use Rattle.text_walk.specs.declared.check.Blob.{Blob}
use Rattle.text_walk.specs.declared.check.Value.{Value}
use Rattle.text_walk.specs.declared.check.Line.{Line}

abbrev pub StopsBy : TextError → Reading → Type 0
StopsBy (BadText place) reading = reading ≡ bad_at place
StopsBy (Limit refusal) reading = (place : ℕ) × (reading ≡ stopped place (inr (paper refusal)))

-- a piece that lies between two places of the text
abbrev pub Lies : List ℕ → ℕ → ℕ → Type 0
Lies s i next = (i ≤ next) × (next ≤ length s)

abbrev pub IdChecks : List ℕ → ℕ → ℕ → Result ℕ BadPlace → Type 0
IdChecks s i n (Ok next) =
    (id : ℕ) × Lies s i next
    × ((rows : List Row) (cells : List Cell)
    → from s i (at rows cells (number n)) ≡ from s next (at rows cells (letter id 0)))
IdChecks s i n (Err bad) = (rows : List Row) (cells : List Cell) → from s i (at rows cells (number n)) ≡ bad_at bad.place

abbrev pub LetterChecks : List ℕ → ℕ → Result Head BadPlace → Type 0
LetterChecks s i (Ok head) =
    Lies s i head.next
    × (known head.kind ≡ true)
    × ((rows : List Row) (cells : List Cell) (id aggregate : ℕ) → Signless s i aggregate
    → from s i (at rows cells (letter id aggregate)) ≡ from s head.next (at rows cells (opened id aggregate head.kind)))
LetterChecks s i (Err bad) =
    (rows : List Row) (cells : List Cell) (id aggregate : ℕ) → Signless s i aggregate
    → from s i (at rows cells (letter id aggregate)) ≡ bad_at bad.place

abbrev pub HeadChecks : List ℕ → ℕ → ℕ → Result Head BadPlace → Type 0
HeadChecks s i n (Ok head) =
    (id : ℕ) × (aggregate : ℕ) × Lies s i head.next × (known head.kind ≡ true)
    × ((rows : List Row) (cells : List Cell)
    → from s i (at rows cells (number n)) ≡ from s head.next (at rows cells (opened id aggregate head.kind)))
HeadChecks s i n (Err bad) =
    (rows : List Row) (cells : List Cell) → from s i (at rows cells (number n)) ≡ bad_at bad.place

-- hex digits with small letters, n of them
abbrev pub Digits : ℕ → List ℕ → Type 0
Digits n s = (k : ℕ) → k < n → small_value (get_or s k 0) ≤ 15

-- sixteen digits that fit a scalar of this type
abbrev pub Fits : ℕ → List ℕ → Type 0
Fits type s = (k : ℕ) → k < 16 → fits_word type (15 - k) (small_value (get_or s k 0)) ≡ true

abbrev pub WordChecks : List ℕ → ℕ → ℕ → Result ℕ BadPlace → Type 0
WordChecks s i type (Ok next) =
    (w : ℕ) × Lies s i next
    × ((rows : List Row) (cells : List Cell) (id aggregate : ℕ)
    → from s i (at rows cells (digits id aggregate type 15 0))
    ≡ from s next (at rows cells (full (cell_of id aggregate type (word w)))))
WordChecks s i type (Err bad) =
    (rows : List Row) (cells : List Cell) (id aggregate : ℕ) → from s i (at rows cells (digits id aggregate type 15 0))
    ≡ bad_at bad.place

-- the high digit of escaped bytes alone
abbrev pub High : ℕ → Type 0
High h = (fits_high h ≡ true) × ((low : ℕ) → low ≤ 15 → escaped (h * 16 + low) ≡ true)

abbrev pub EscapeChecks : List ℕ → ℕ → Result ℕ BadPlace → Type 0
EscapeChecks s i (Ok next) =
    (b : ℕ) × Lies s i next
    × ((rows : List Row) (cells : List Cell) (id aggregate type : ℕ) (t : List ℕ) → length t + 1 ≤ max_length
    → from s i (at rows cells (percent id aggregate type t))
    ≡ from s next (at rows cells (full (cell_of id aggregate type (bytes (t ++ b ∷ []))))))
    × ((rows : List Row) (cells : List Cell) (id aggregate type : ℕ) (t : List ℕ) → max_length < length t + 1
    → from s i (at rows cells (percent id aggregate type t)) ≡ stopped (i + 1) (inr (refuse 12 ((length t + 1) ∷ []))))
EscapeChecks s i (Err bad) =
    (rows : List Row) (cells : List Cell) (id aggregate type : ℕ) (t : List ℕ)
    → from s i (at rows cells (percent id aggregate type t)) ≡ bad_at bad.place

abbrev pub UnitsCheck : List ℕ → ℕ → Result Blob TextError → Type 0
UnitsCheck s i (Ok blob) =
    (t : List ℕ) × (length t ≡ blob.length) × (blob.length ≤ max_length) × (i ≤ blob.next) × EndsThere s blob.next
    × ((rows : List Row) (cells : List Cell) (id aggregate type : ℕ)
    → from s i (at rows cells (full (cell_of id aggregate type (bytes []))))
    ≡ from s blob.next (at rows cells (full (cell_of id aggregate type (bytes t)))))
UnitsCheck s i (Err refusal) =
    (rows : List Row) (cells : List Cell) (id aggregate type : ℕ)
    → StopsBy refusal (from s i (at rows cells (full (cell_of id aggregate type (bytes [])))))

abbrev pub EndChecks : List ℕ → ℕ → ℕ → ℕ → Result Value TextError → Type 0
EndChecks s i n size (Ok value) =
    (value.length ≡ n) × (value.size ≡ size) × (size ≤ max_size) × (i < value.next) × (value.next ≤ length s)
    × ((rows : List Row) (cells : List Cell) (c : Cell) → Settled s i c → size_with rows (cells ++ c ∷ []) ≡ size
    → from s i (at rows cells (full c)) ≡ from s value.next (behind_value value.last rows cells c))
EndChecks s i n size (Err refusal) =
    (rows : List Row) (cells : List Cell) (c : Cell) → Settled s i c → size_with rows (cells ++ c ∷ []) ≡ size
    → StopsBy refusal (from s i (at rows cells (full c)))

-- a value that is whole: which one it is, and how the reading goes on, from a state that its fields give
pub record Wholly (s : List ℕ) (i size : ℕ) (state : List Row → List Cell → State) (value : Value)
    : Type 0 where
  pub cell : Cell
  pub blob_length : length (blob_of cell.content) ≡ value.length
  pub size_with_lem : value.size ≡ size + length (cell_bytes cell)
  pub size_fits : value.size ≤ max_size
  pub further : i < value.next
  pub inside : value.next ≤ length s
  pub goes : (rows : List Row) (cells : List Cell) → size_with rows cells ≡ size
      → from s i (state rows cells) ≡ from s value.next (behind_value value.last rows cells cell)

abbrev pub Breaks : List ℕ → ℕ → ℕ → (List Row → List Cell → State) → TextError → Type 0
Breaks s i size state refusal =
    (rows : List Row) (cells : List Cell) → size_with rows cells ≡ size → StopsBy refusal (from s i (state rows cells))

abbrev pub Checks : List ℕ → ℕ → ℕ → (List Row → List Cell → State) → Result Value TextError → Type 0
Checks s i size state (Ok value) = Wholly s i size state value
Checks s i size state (Err refusal) = Breaks s i size state refusal

-- a scalar, and a blob, of whatever id and aggregate; with the scalar the rowset has this size
abbrev pub ScalarChecks : List ℕ → ℕ → ℕ → ℕ → Result Value TextError → Type 0
ScalarChecks s i type with_it r =
    (id aggregate size : ℕ) → size + 16 ≡ with_it
    → Checks s i size (λ rows cells. at rows cells (digits id aggregate type 15 0)) r

abbrev pub BlobChecks : List ℕ → ℕ → ℕ → Result Value TextError → Type 0
BlobChecks s i size r =
    (id aggregate type : ℕ)
    → Checks s i size (λ rows cells. at rows cells (full (cell_of id aggregate type (bytes [])))) r

abbrev pub ValueChecks : List ℕ → ℕ → ℕ → ℕ → Result Value TextError → Type 0
ValueChecks s i n size r = Checks s i size (λ rows cells. at rows cells (number n)) r

-- a line that is whole: which row it is, and how the reading goes on, from a state that the rows before it give
pub record Wholes (s : List ℕ) (i row size : ℕ) (state : List Row → State) (line : Line) : Type 0 where
  pub the_row : Row
  pub count_is : length (cells_of the_row) ≡ line.values
  pub blob_length : length (blobs (cells_of the_row)) ≡ line.bytes
  pub size_with_lem : line.size ≡ size + length (row_bytes the_row)
  pub size_fits : line.size ≤ max_size
  pub row_fits : row < max_rows
  pub further : i < line.next
  pub inside : line.next ≤ length s
  pub goes : (rows : List Row) → length rows ≡ row → length (bytes_of_rows rows) ≡ size
      → from s i (state rows) ≡ from s line.next (at (rows ++ the_row ∷ []) [] fresh)

abbrev pub LineFrom : List ℕ → ℕ → ℕ → ℕ → (List Row → State) → Result Line TextError → Type 0
LineFrom s i row size state (Ok line) = Wholes s i row size state line
LineFrom s i row size state (Err refusal) =
    (rows : List Row) → length rows ≡ row → length (bytes_of_rows rows) ≡ size → StopsBy refusal (from s i (state rows))

-- with the row's word the rowset has the size `with_it`
abbrev pub ValuesCheck : List ℕ → ℕ → ℕ → ℕ → Result Line TextError → Type 0
ValuesCheck s i row with_it r = (size : ℕ) → size + 8 ≡ with_it → LineFrom s i row size (λ rows. at rows [] fresh) r

abbrev pub NullChecks : List ℕ → ℕ → ℕ → Result Line TextError → Type 0
NullChecks s i with_it r =
    (row size : ℕ) → row < max_rows → size + 8 ≡ with_it → with_it ≤ max_size → LineFrom s i row size hash r

abbrev pub LineChecks : List ℕ → ℕ → ℕ → ℕ → Result Line TextError → Type 0
LineChecks s i row size r = LineFrom s i row size (λ rows. at rows [] fresh) r
