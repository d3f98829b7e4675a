-- Document 01's limits as they are met when a text is read. Document 02, A1: "10, 13 and 11 once the row's or value's
-- first byte fits, 12 at a whole blob byte, 13 at the tab or line feed after a value, with the first number over". At
-- each byte first whether it fits, then the limits that are asked at it, each list in its order. Assumes nothing.
use Rattle.std.specs.Prelude.{ℕ, ◌+◌, ◌&&◌, ◌||◌, List, [], ◌∷◌, ◌++◌, ◌⊎◌, length}
use Rattle.std.proofs.Common.{inl, inr}
use Rattle.words.specs.Answer.{Answer, refuse}
use Rattle.words.specs.Decide.{Line, ◌⇒◌, decide, pick, ◌<?◌, ◌=?◌}
use Rattle.places.specs.Machine.{Move, on, off, Machine}
use Rattle.wire.specs.Layout.{max_rows, max_values, max_length, max_size}
use Rattle.wire.specs.Content.{Content, nothing, word, bytes, Cell, Row, null, values, bytes_of_rows}
use Rattle.text_form.specs.Form.{tab, line_feed, percent_sign}
use Rattle.text_form.specs.Walk.{Phase, fresh, number, letter, digits, full, percent, second, State, hash, at, is_empty, walk}

-- to go on, or the refusal of a limit
abbrev pub Ask : Type 0
Ask = Move (Unit {0}) Answer

abbrev pub asking : List (Line Ask) → Ask
asking lines = decide lines (on tt)

-- the bytes of the rowset that the rows so far would make, a row of these values begun
abbrev pub size_with : List Row → List Cell → ℕ
size_with rows cells = length (bytes_of_rows (rows ++ values cells ∷ []))

-- 10, 13, 11: the row or value that begins here, behind so many
abbrev pub beginning : List Row → List Cell → List (Line Ask)
beginning rows cells =
    (is_empty cells && max_rows <? (length rows + 1)) ⇒ off (refuse 10 ((length rows + 1) ∷ []))
    ∷ (is_empty cells && max_size <? size_with rows []) ⇒ off (refuse 13 (size_with rows [] ∷ []))
    ∷ max_values <? (length cells + 1) ⇒ off (refuse 11 (length rows ∷ (length cells + 1) ∷ []))
    ∷ []

-- 13: the row with the value that ends here
abbrev pub ending : List Row → List Cell → List (Line Ask)
ending rows cells = max_size <? size_with rows cells ⇒ off (refuse 13 (size_with rows cells ∷ [])) ∷ []

-- 12: a blob of so many bytes
abbrev pub lengthening : ℕ → List (Line Ask)
lengthening n = max_length <? n ⇒ off (refuse 12 (n ∷ [])) ∷ []

-- a byte of a blob that stands for itself
abbrev pub further : Content → ℕ → Ask
further nothing b = on tt
further (word w) b = on tt
further (bytes s) b = pick (b =? percent_sign) (on tt) (asking (lengthening (length s + 1)))

-- what is asked at a byte that fits
unfoldable pub over : State → ℕ → Ask
over (hash rows) b = on tt
over (at rows cells fresh) b = asking (beginning rows cells)
over (at rows cells (number n)) b = on tt
over (at rows cells (letter id aggregate)) b = on tt
over (at rows cells (digits id aggregate type k w)) b = on tt
over (at rows cells (full c)) b =
    pick (b =? tab || b =? line_feed) (asking (ending rows (cells ++ c ∷ []))) (further c.content b)
over (at rows cells (percent id aggregate type s)) b = on tt
over (at rows cells (second id aggregate type s h)) b = asking (lengthening (length s + 1))

-- a move on is asked once more
abbrev pub passed : {S R L : Type 0} → S → Move (Unit {0}) L → Move S (R ⊎ L)
passed q (on u) = on q
passed q (off l) = off (inr l)

abbrev pub asked : {S R L : Type 0} → Move S R → Move (Unit {0}) L → Move S (R ⊎ L)
asked (on q) over = passed q over
asked (off r) over = off (inl r)

-- the machine that stops at a byte that does not fit (inl) or at a limit (inr)
abbrev pub limited : {S A R L : Type 0} → Machine S A R → (S → ℕ → Move (Unit {0}) L) → Machine S A (R ⊎ L)
limited m over = record { step = λ q b. asked (m.step q b) (over q b); close = λ q. asked (m.close q) (on tt) }

abbrev pub walk_within : Machine State (List Row) (Unit {0} ⊎ Answer)
walk_within = limited walk over
