-- How long a text is, piece by piece: a blob's bytes, a value, the values of a row, the rows. Assumes nothing.
use mathlib.Core.Path.{◌≡◌, refl, sym, ◌∙◌, ap}
use mathlib.Core.Bool.{Bool, true, false}
use mathlib.Core.List.{List, [], ◌∷◌, ◌++◌}
use Prim.Native.Nat.{ℕ, zero, suc, ◌+◌, ◌*◌, ◌-◌, ◌%◌, ◌<◌, ◌≤◌}
use native.Mathlib.Nat.{min-le_left}
use native.Mathlib.Numerals.{add-one}
use native.Mathlib.Omega.{arith}
use lib.ListN.{length, get_or, take, drop, length-append, length-take, drop_of_length-le}
use lib.Seq.{drop-cons}
use borrow.Author.Tests.{eq-eqb, ne_eqb, eqb-true, eqb-false}
use Rattle.words.specs.Buffer.{stretch}
use Rattle.words.specs.Decide.{pick, ◌=?◌}
use Rattle.words.proofs.DecideLaws.{pick_case}
use Rattle.numerals.specs.Statement.{decimal}
use Rattle.numerals.proofs.SpelledLaws.{length_lowest, lowest, length_spelled_most}
use Rattle.wire.specs.Layout.{null_mark, entry_words, scalar, blob, payload, flag, values_in}
use Rattle.wire.specs.Content.{Cell, null, values, cell_in, cells_in, row_in, rows_from}
use Rattle.wire.proofs.TypeLaws.{scalar_yes, scalar_low, blob_yes, blob_low}
use Rattle.wire_check.specs.Writing.{total, size_of, value_size, values_size, row_size, rows_size, rowset_size}
use Rattle.wire_check.proofs.TableLaws.{by_test, total_more}
use Rattle.text_form.specs.Form.{tab, line_feed, null_sign, letter_of, escaped, unit, units, hexes, head, cell_text, more, row_text, text}
use Rattle.text_size.specs.Stages.{value_text, entry_text, behind, closed, values_text, rows_text}

-- a blob's byte
pub unit_escaped : (b : ℕ) → escaped b ≡ true → length (unit b) ≡ 3
unfolding unit
unit_escaped b e = rw e

pub unit_plain : (b : ℕ) → escaped b ≡ false → length (unit b) ≡ 1
unfolding unit
unit_plain b e = rw e

-- a blob's bytes from i on
pub units_more : (s : List ℕ) (i : ℕ) → i < length s → units (drop i s) ≡ unit (get_or s i 0) ++ units (drop (i + 1) s)
unfolding units
units_more s i h = rw (drop-cons s i 0 h, add-one i)

pub units_none : (s : List ℕ) (i : ℕ) → length s ≤ i → units (drop i s) ≡ []
unfolding units
units_none s i h = rw (drop_of_length-le s h)

pub units_size_more : (s : List ℕ) (i size n : ℕ) → i < length s → size + length (units (drop i s)) ≡ length (units s) → n ≡ length (unit (get_or s i 0))
    → size + n + length (units (drop (i + 1) s)) ≡ length (units s)
units_size_more s i size n h so_far e =
    let one : length (units (drop i s)) ≡ length (unit (get_or s i 0)) + length (units (drop (i + 1) s)) =
    ap length (units_more s i h) ∙ length-append (unit (get_or s i 0)) (units (drop (i + 1) s)) in
    omega arith

-- a stretch between two places, and from one on
pub same_stretch : (area : List ℕ) (at n : ℕ) → units (take (at + n - at) (drop at area)) ≡ units (stretch area at n)
same_stretch area at n =
    let same : at + n - at ≡ n = omega arith in
    rw same

-- a scalar's digits
pub hexes_lowest : (k w : ℕ) → hexes k w ≡ lowest 16 k w
unfolding hexes lowest
hexes_lowest zero w = refl
hexes_lowest (suc k) w = rw (hexes_lowest k)

pub length_hexes : (k w : ℕ) → length (hexes k w) ≡ k
length_hexes k w = ap length (hexes_lowest k w) ∙ length_lowest 16 k w

-- id, colon and sign
pub head_length : (id aggregate : ℕ) → length (head id aggregate) ≡ length (decimal id) + 1 + flag aggregate
unfolding head
head_length id aggregate =
    length-append (decimal id) _
    ∙ pick_case (aggregate =? 0) [] (33 ∷ []) (λ (l : List ℕ). length (decimal id) + suc (length l) ≡ length (decimal id) + 1 + flag aggregate)
    (λ e. rw e (omega arith)) (λ e. rw e (omega arith))

-- a value by its type
module _ (area : List ℕ) (id type aggregate bits n : ℕ) where
  pub text_null : type < 3 → value_text area id type aggregate bits n ≡ head id aggregate ++ letter_of type ∷ []
  unfolding cell_text
  text_null low = rw (blob_low type (omega arith), scalar_low type (omega arith))

  pub text_scalar : 2 < type → type < 7 → value_text area id type aggregate bits n ≡ head id aggregate ++ letter_of type ∷ hexes 16 bits
  unfolding cell_text
  text_scalar low high = rw (blob_low type (omega arith), scalar_yes type low high)

  pub text_blob : 15 < type → type < 19 → value_text area id type aggregate bits n ≡ head id aggregate ++ letter_of type ∷ units (stretch area bits n)
  unfolding cell_text
  text_blob low high = rw (blob_yes type low high)

  pub size_null : type < 3 → length (value_text area id type aggregate bits n) ≡ length (head id aggregate) + 1
  size_null low = ap length (text_null low) ∙ length-append (head id aggregate) (letter_of type ∷ [])

  pub size_scalar : 2 < type → type < 7 → length (value_text area id type aggregate bits n) ≡ length (head id aggregate) + 1 + 16
  size_scalar low high =
      ap length (text_scalar low high) ∙ length-append (head id aggregate) (letter_of type ∷ hexes 16 bits) ∙ rw (length_hexes 16 bits) (omega arith)

  pub size_blob : 15 < type → type < 19 → length (value_text area id type aggregate bits n) ≡ length (head id aggregate) + 1 + length (units (stretch area bits n))
  size_blob low high =
      ap length (text_blob low high) ∙ length-append (head id aggregate) (letter_of type ∷ units (stretch area bits n)) ∙ omega arith

-- the values of a row
module _ (area table : List ℕ) where
  behind_cells : (m k : ℕ) → behind (cells_in area table m k) ≡ pick (suc m =? 1) line_feed tab
  unfolding cells_in
  behind_cells zero k = refl
  behind_cells (suc m) k = rw (ne_eqb (suc (suc m)) 1 (λ e. omega arith))

  cells_more : (m k : ℕ) → closed (cells_in area table (suc m) k) ≡ entry_text area table k ++ pick (suc m =? 1) line_feed tab ∷ closed (cells_in area table m (k + entry_words))
  unfolding cells_in closed
  cells_more m k = ap (λ (b : ℕ). entry_text area table k ++ b ∷ closed (cells_in area table m (k + entry_words))) (behind_cells m (k + entry_words))

  -- the first of `left` values, and what stands behind it
  pub values_more : (left k : ℕ) → 0 < left
      → values_text area table left k ≡ entry_text area table k ++ pick (left =? 1) line_feed tab ∷ values_text area table (left - 1) (k + entry_words)
  values_more left k some =
      let one_more : left ≡ suc (left - 1) = omega arith in
      ap (λ (m : ℕ). values_text area table m k) one_more ∙ cells_more (left - 1) k
      ∙ ap (λ (m : ℕ). entry_text area table k ++ pick (m =? 1) line_feed tab ∷ values_text area table (left - 1) (k + entry_words)) (sym one_more)

  pub values_none : (left k : ℕ) → left ≤ 0 → values_text area table left k ≡ []
  unfolding cells_in closed
  values_none left k none =
      let nothing : left ≡ 0 = omega arith in
      rw nothing

  pub values_size_more : (left k all size n : ℕ) → 0 < left → size + length (values_text area table left k) ≡ all → n ≡ length (entry_text area table k)
      → size + (n + 1) + length (values_text area table (left - 1) (k + entry_words)) ≡ all
  values_size_more left k all size n some so_far e =
      let one : length (values_text area table left k) ≡ length (entry_text area table k) + suc (length (values_text area table (left - 1) (k + entry_words))) =
      ap length (values_more left k some) ∙ length-append (entry_text area table k) _ in
      omega arith

-- a row that has values is these, each with the byte behind it
more_closed : (cells : List Cell) → more cells ≡ behind cells ∷ closed cells
unfolding more closed
more_closed [] = refl
more_closed (c ∷ cells) = ap (λ (l : List ℕ). tab ∷ cell_text c ++ l) (more_closed cells)

row_closed : (c : Cell) (cells : List Cell) → row_text (values (c ∷ cells)) ≡ closed (c ∷ cells)
unfolding row_text closed
row_closed c cells = ap (λ (l : List ℕ). cell_text c ++ l) (more_closed cells)

module _ (area table : List ℕ) (count k : ℕ) where
  pub row_null : count ≡ null_mark → row_text (row_in area table count k) ≡ null_sign ∷ line_feed ∷ []
  unfolding row_text
  row_null e = rw (eq-eqb count null_mark e)

  pub row_empty : count ≡ 0 → row_text (row_in area table count k) ≡ line_feed ∷ []
  unfolding row_text cells_in
  row_empty e = rw e

  pub row_values : (count ≡ null_mark → ⊥) → (count ≡ 0 → ⊥) → row_text (row_in area table count k) ≡ values_text area table count k
  unfolding cells_in
  row_values other some =
      let one_more : count ≡ suc (count - 1) = omega (arith, some) in
      ap (λ (t : Bool). row_text (pick t null (values (cells_in area table count k)))) (ne_eqb count null_mark other)
      ∙ ap (λ (m : ℕ). row_text (values (cells_in area table m k))) one_more
      ∙ row_closed (cell_in area table k) (cells_in area table (count - 1) (k + entry_words))
      ∙ ap (λ (m : ℕ). values_text area table m k) (sym one_more)

pub row_count : (count : ℕ) → (count ≡ null_mark → ⊥) → values_in count ≡ count
row_count count other = rw (ne_eqb count null_mark other)

-- the rows from i on
module _ (area rows table : List ℕ) where
  pub rows_more : (i k : ℕ) → i < length rows
      → rows_text area (drop i rows) table k
      ≡ row_text (row_in area table (get_or rows i 0) k) ++ rows_text area (drop (i + 1) rows) table (k + entry_words * values_in (get_or rows i 0))
  unfolding rows_from text
  rows_more i k h = rw (drop-cons rows i 0 h, add-one i)

  pub rows_none : (i k : ℕ) → length rows ≤ i → rows_text area (drop i rows) table k ≡ []
  unfolding rows_from text
  rows_none i k h = rw (drop_of_length-le rows h)

  pub rows_size_more : (i k all size n m : ℕ) → i < length rows → size + length (rows_text area (drop i rows) table k) ≡ all
      → n ≡ length (row_text (row_in area table (get_or rows i 0) k)) → m ≡ values_in (get_or rows i 0)
      → size + n + length (rows_text area (drop (i + 1) rows) table (k + entry_words * m)) ≡ all
  rows_size_more i k all size n m h so_far e is =
      let count : ℕ = get_or rows i 0 in
      let one : length (rows_text area (drop i rows) table k) ≡ length (row_text (row_in area table count k)) + length (rows_text area (drop (i + 1) rows) table (k + entry_words * values_in count)) =
      ap length (rows_more i k h) ∙ length-append (row_text (row_in area table count k)) _ in
      rw is (omega arith)

-- The text is at most four times as long as the rowset, so its length fits a word

units_most : (s : List ℕ) → length (units s) ≤ 3 * length s
unfolding units unit
units_most [] = omega arith
units_most (b ∷ s) =
    let rest : length (units s) ≤ 3 * length s = units_most s in
    pick_case (escaped b) _ (b ∷ []) (λ (l : List ℕ). length (l ++ units s) ≤ 3 * suc (length s)) (λ e. omega arith) (λ e. omega arith)

pub decimal_most : (id : ℕ) → length (decimal id) ≤ 20
decimal_most id = length_spelled_most 10 20 id

pub flag_most : (aggregate : ℕ) → flag aggregate ≤ 1
flag_most aggregate = pick_case (aggregate =? 0) 0 1 (λ (n : ℕ). n ≤ 1) (λ e. omega arith) (λ e. omega arith)

head_most : (id aggregate : ℕ) → length (head id aggregate) ≤ 22
head_most id aggregate = omega (arith, head_length id aggregate, decimal_most id, flag_most aggregate)

take_most : (n : ℕ) (s : List ℕ) → length (take n s) ≤ n
take_most n s = rw (length-take n s) (min-le_left n (length s))

value_most : (area : List ℕ) (id type aggregate bits n : ℕ) → length (value_text area id type aggregate bits n) + 1 ≤ 4 * size_of type n
unfolding cell_text payload
value_most area id type aggregate bits n =
    let first : length (head id aggregate) ≤ 22 = head_most id aggregate in
    by_test (blob type)
    (λ is.
    let blobs : length (units (stretch area bits n)) ≤ 3 * length (stretch area bits n) = units_most (stretch area bits n) in
    let short : length (stretch area bits n) ≤ n = take_most n (drop bits area) in
    rw is (rw (length-append (head id aggregate) (letter_of type ∷ units (stretch area bits n))) (omega arith)))
    (λ isnt. by_test (scalar type)
    (λ is. rw (isnt, is) (rw (length-append (head id aggregate) (letter_of type ∷ hexes 16 bits), length_hexes 16 bits) (omega arith)))
    (λ none. rw (isnt, none) (rw (length-append (head id aggregate) (letter_of type ∷ [])) (omega arith))))

module _ (area table : List ℕ) where
  values_most : (n k : ℕ) → length (values_text area table n k) ≤ 4 * values_size table n k
  unfolding values_size cells_in closed
  values_most zero k = omega arith
  values_most (suc n) k =
      let one : length (entry_text area table k) + 1 ≤ 4 * value_size table k = value_most area (get_or table k 0) (get_or table (k + 1) 0) (get_or table (k + 2) 0) (get_or table (k + 3) 0) (get_or table (k + 4) 0) in
      let others : length (values_text area table n (k + entry_words)) ≤ 4 * values_size table n (k + entry_words) = values_most n (k + entry_words) in
      rw (length-append (entry_text area table k) (behind (cells_in area table n (k + entry_words)) ∷ values_text area table n (k + entry_words))) (omega arith)

  row_most : (count k : ℕ) → length (row_text (row_in area table count k)) ≤ 4 * row_size table count k
  row_most count k =
      by_test (count =? null_mark)
      (λ is. rw (row_null area table count k (eqb-true count null_mark is)) (omega arith))
      (λ isnt. by_test (count =? 0)
      (λ none. rw (row_empty area table count k (eqb-true count 0 none)) (omega arith))
      (λ some.
      let these : length (values_text area table count k) ≤ 4 * values_size table count k = values_most count k in
      let all : values_in count ≡ count = rw isnt in
      rw (row_values area table count k (eqb-false count null_mark isnt) (eqb-false count 0 some), all) (omega arith)))

  rows_most : (rows : List ℕ) (k : ℕ) → length (rows_text area rows table k) ≤ 4 * rows_size rows table k
  unfolding rows_size rows_from text
  rows_most [] k = omega arith
  rows_most (count ∷ rows) k =
      let one : length (row_text (row_in area table count k)) ≤ 4 * row_size table count k = row_most count k in
      let others : length (rows_text area rows table (k + entry_words * values_in count)) ≤ 4 * rows_size rows table (k + entry_words * values_in count) = rows_most rows (k + entry_words * values_in count) in
      rw (length-append (row_text (row_in area table count k)) (rows_text area rows table (k + entry_words * values_in count))) (omega arith)

pub text_most : (area rows table : List ℕ) → length (rows_text area rows table 0) ≤ 4 * rowset_size rows table
unfolding rowset_size
text_most area rows table = omega (arith, rows_most area table rows 0)

-- What is still to be measured: `left` values from the word k on, and the rows from i on

abbrev pub ValuesLeft : List ℕ → List ℕ → ℕ → ℕ → ℕ → ℕ → ℕ → Type 0
ValuesLeft area table start count size k left =
    (k % entry_words ≡ 0)
    × (k + entry_words * left ≤ length table)
    × (size + length (values_text area table left k) ≡ length (values_text area table count start))

abbrev pub RowsLeft : List ℕ → List ℕ → List ℕ → ℕ → ℕ → ℕ → Type 0
RowsLeft area rows table size k i =
    (k % entry_words ≡ 0)
    × (k + entry_words * total (drop i rows) ≤ length table)
    × (size + length (rows_text area (drop i rows) table k) ≡ length (rows_text area rows table 0))

module _ (area table : List ℕ) (start count size k left : ℕ) (so_far : ValuesLeft area table start count size k left) (some : 0 < left) where
  pub values_go : (n : ℕ) → n ≡ length (entry_text area table k) → (fewer : ℕ) → fewer ≡ left - 1
      → ValuesLeft area table start count (size + (n + 1)) (k + entry_words) fewer
  values_go n e fewer is = rw is (omega arith, omega arith, values_size_more area table left k _ size n some so_far.2 e)

  -- the next value is no longer than what is left
  pub entry_short : size + (length (entry_text area table k) + 1) ≤ length (values_text area table count start)
  entry_short = omega (arith, values_size_more area table left k _ size _ some so_far.2 refl)

module _ (area rows table : List ℕ) (size k i : ℕ) (so_far : RowsLeft area rows table size k i) (some : i < length rows) where
  pub rows_go : (n m : ℕ) → n ≡ length (row_text (row_in area table (get_or rows i 0) k)) → m ≡ values_in (get_or rows i 0)
      → RowsLeft area rows table (size + n) (k + entry_words * m) (i + 1)
  rows_go n m e is =
      let more : total (drop i rows) ≡ values_in (get_or rows i 0) + total (drop (i + 1) rows) = total_more rows i some in
      (omega arith, omega arith, rows_size_more area rows table i k _ size n m some so_far.2 e is)

  pub row_fits : k + entry_words * values_in (get_or rows i 0) ≤ length table
  row_fits = omega (arith, total_more rows i some, so_far.1)

  pub row_short : size + length (row_text (row_in area table (get_or rows i 0) k)) ≤ length (rows_text area rows table 0)
  row_short = omega (arith, rows_size_more area rows table i k _ size _ _ some so_far.2 refl refl)
