-- The bytes that are written from lent tables are those of the tables' content. Assumes nothing.
use mathlib.Core.Path.{◌≡◌, refl, sym, ◌∙◌, ap}
use mathlib.Core.Bool.{Bool, true, false, not, ◌&&◌}
use mathlib.Core.List.{List, [], ◌∷◌, ◌++◌, append-nil}
use mathlib.Core.Logic.{◌⊎◌, inl, inr, ⊎_elim}
use Prim.Native.Nat.{ℕ, zero, suc, ◌+◌, ◌-◌, ◌*◌, ◌/◌, ◌%◌, ◌^◌, ◌<◌, ◌≤◌}
use native.Mathlib.Omega.{arith}
use lib.Dec.{ltb, eqb}
use lib.ListN.{length, get_or, drop, length-drop}
use lib.Seq.{length-take-le}
use borrow.Author.Tests.{le-ltb, eq-eqb, ne_eqb, eqb-true}
use Rattle.words.specs.Buffer.{stretch}
use Rattle.words.specs.Word.{bytes_of}
use Rattle.wire.specs.Layout.{null_mark, max_rows, max_values, entry_words, boolean, scalar, blob, known, values_in, payload_bytes, value_bytes, entry_bytes, values_bytes, row_bytes, rows_bytes, rowset_bytes}
use Rattle.wire_check.specs.Writing.{type_in, bits_in, length_in, total}
use Rattle.wire.specs.Content as content
use Rattle.wire.specs.Content.{Content, nothing, word, bytes, Cell, Row, null, values, cell_in, cells_in, rows_from, rows_in, content_in, length_word, content_bytes, cell_bytes, cells_bytes, bytes_of_rows}
use Rattle.promises.specs.RowContent.{FitsType, GoodCells, GoodRow, GoodRows, Writable}
use Rattle.promises.specs.RowsetWriter.{Allowed}
use Rattle.promises.proofs.CellRound.{by_test, scalar_no_blob}

-- what is known and neither a scalar nor a blob is a Null
pub null_type_lem : (type : ℕ) → known type ≡ true → scalar type ≡ false → blob type ≡ false → type ≡ 2
null_type_lem type is none isnt = by_test (eqb type 2) (λ t. eqb-true type 2 t) (λ t. let never : false ≡ true = rw (t, none, isnt) at is in absurd (let z : ◌≡◌ {A = ℕ} 0 1 = cc in omega arith))

module _ (area table : List ℕ) where
  module _ (k : ℕ) (allowed : Allowed area table k) where
    long : blob (type_in table k) ≡ true → length (stretch area (bits_in table k) (length_in table k)) ≡ length_in table k
    long is = length-take-le (length_in table k) (drop (bits_in table k) area) (rw (length-drop (bits_in table k) area) (omega (arith, allowed.lies is)))

    length_same : length_word (content_in area (type_in table k) (bits_in table k) (length_in table k)) ≡ length_in table k
    length_same =
        by_test (blob (type_in table k)) (λ is. rw is (long is))
        (λ isnt. rw isnt (by_test (scalar (type_in table k)) (λ is. rw is (sym (allowed.no_length isnt))) (λ none. rw none (sym (allowed.no_length isnt)))))

    payload_same : payload_bytes area (type_in table k) (bits_in table k) (length_in table k) ≡ content_bytes (content_in area (type_in table k) (bits_in table k) (length_in table k))
    unfolding payload_bytes
    payload_same =
        by_test (blob (type_in table k)) (λ is. rw (is, long is))
        (λ isnt. rw isnt (by_test (scalar (type_in table k)) (λ is. rw is) (λ none. rw none)))

    pub entry_bytes_lem : entry_bytes area table k ≡ cell_bytes (cell_in area table k)
    unfolding value_bytes
    entry_bytes_lem = rw (length_same, payload_same)

    pub content_fits : bits_in table k < 2 ^ 64 → FitsType (type_in table k) (content_in area (type_in table k) (bits_in table k) (length_in table k))
    content_fits small =
        by_test (blob (type_in table k)) (λ is. rw is (is, rw (long is) (allowed.short is)))
        (λ isnt. rw isnt (by_test (scalar (type_in table k)) (λ is. rw is (is, small, allowed.boolean_bit))
        (λ none. rw none (null_type_lem (type_in table k) allowed.is_known none isnt))))

  -- n entries from the word k on
  abbrev pub AllowedFrom : ℕ → ℕ → Type 0
  AllowedFrom n k = (i : ℕ) → i < n → Allowed area table (k + entry_words * i)

  pub allowed_first : (n k : ℕ) → AllowedFrom (suc n) k → Allowed area table k
  allowed_first n k each = let here : k + entry_words * 0 ≡ k = omega arith in rw here at (each 0 (omega arith))

  pub allowed_rest : (n m k j : ℕ) → AllowedFrom n k → m + j ≤ n → AllowedFrom m (k + entry_words * j)
  allowed_rest n m k j each h i less =
      let place : k + entry_words * (j + i) ≡ k + entry_words * j + entry_words * i = omega arith in
      rw place at (each (j + i) (omega arith))

  pub allowed_next : (n k : ℕ) → AllowedFrom (suc n) k → AllowedFrom n (k + entry_words)
  allowed_next n k each = allowed_rest (suc n) n k 1 each (omega arith)

  cells_bytes_lem : (n k : ℕ) → AllowedFrom n k → values_bytes area table n k ≡ cells_bytes (cells_in area table n k)
  unfolding values_bytes cells_in cells_bytes
  cells_bytes_lem zero k each = refl
  cells_bytes_lem (suc n) k each = rw (entry_bytes_lem k (allowed_first n k each), cells_bytes_lem n (k + entry_words) (allowed_next n k each))

  length_cells : (n k : ℕ) → length (cells_in area table n k) ≡ n
  unfolding cells_in
  length_cells zero k = refl
  length_cells (suc n) k = ap suc (length_cells n (k + entry_words))

  row_bytes_lem : (count k : ℕ) → AllowedFrom (values_in count) k → row_bytes area table count k ≡ content.row_bytes (content.row_in area table count k)
  unfolding row_bytes values_bytes
  row_bytes_lem count k each =
      by_test (eqb count null_mark)
      (λ t. rw t (append-nil (bytes_of 8 count) ∙ ap (bytes_of 8) (eqb-true count null_mark t)))
      (λ t. rw (t, length_cells count k, cells_bytes_lem count k (rw t at each)))

  rows_bytes_lem : (rows : List ℕ) (k : ℕ) → AllowedFrom (total rows) k → rows_bytes area rows table k ≡ content.rows_bytes (rows_from area rows table k)
  unfolding rows_bytes total rows_from content.rows_bytes
  rows_bytes_lem [] k each = refl
  rows_bytes_lem (count ∷ rows) k each =
      rw (row_bytes_lem count k (λ i less. each i (omega arith)), rows_bytes_lem rows (k + entry_words * values_in count) (allowed_rest (values_in count + total rows) (total rows) k (values_in count) each (omega arith)))

  length_rows : (rows : List ℕ) (k : ℕ) → length (rows_from area rows table k) ≡ length rows
  unfolding rows_from
  length_rows [] k = refl
  length_rows (count ∷ rows) k = ap suc (length_rows rows (k + entry_words * values_in count))

  pub rowset_bytes_lem : (rows : List ℕ) → AllowedFrom (total rows) 0 → rowset_bytes area rows table ≡ bytes_of_rows (rows_in area rows table)
  unfolding rowset_bytes bytes_of_rows
  rowset_bytes_lem rows each = rw (length_rows rows 0, rows_bytes_lem rows 0 each)

  -- and the content can be written
  module _ (words : (i : ℕ) → get_or table i 0 < 2 ^ 64) where
    cells_good : (n k : ℕ) → AllowedFrom n k → GoodCells (cells_in area table n k)
    unfolding cells_in
    cells_good zero k each = tt
    cells_good (suc n) k each =
        let first : Allowed area table k = allowed_first n k each in
        (record { id_fits = first.id_fits; aggregate_bit = first.aggregate_bit; fits_type = content_fits k first (words (k + 3)) }, cells_good n (k + entry_words) (allowed_next n k each))

    row_good : (count k : ℕ) → (count ≡ null_mark) ⊎ (count ≤ max_values) → AllowedFrom (values_in count) k → GoodRow (content.row_in area table count k)
    row_good count k few each =
        by_test (eqb count null_mark) (λ t. rw t tt)
        (λ t. rw t (rw (length_cells count k) (⊎_elim (λ (e : count ≡ null_mark). let never : true ≡ false = sym (eq-eqb count null_mark e) ∙ t in absurd (let z : ◌≡◌ {A = ℕ} 0 1 = cc in omega arith)) (λ (h : count ≤ max_values). h) few), cells_good count k (rw t at each)))

    rows_good : (rows : List ℕ) (k : ℕ) → ((i : ℕ) → i < length rows → (get_or rows i 0 ≡ null_mark) ⊎ (get_or rows i 0 ≤ max_values)) → AllowedFrom (total rows) k → GoodRows (rows_from area rows table k)
    unfolding total rows_from
    rows_good [] k counts each = tt
    rows_good (count ∷ rows) k counts each =
        (row_good count k (counts 0 (omega arith)) (λ i less. each i (omega arith)), rows_good rows (k + entry_words * values_in count) (λ i less. counts (suc i) (omega arith)) (allowed_rest (values_in count + total rows) (total rows) k (values_in count) each (omega arith)))

    pub content_writable : (rows : List ℕ) → length rows ≤ max_rows → ((i : ℕ) → i < length rows → (get_or rows i 0 ≡ null_mark) ⊎ (get_or rows i 0 ≤ max_values)) → AllowedFrom (total rows) 0 → Writable (rows_in area rows table)
    content_writable rows few counts each = (rw (length_rows rows 0) few, rows_good rows 0 counts each)
