-- The rows of tables that the rowset writer's checks let pass keep the limits. Assumes nothing.
use mathlib.Core.Path.{◌≡◌, refl, sym, ◌∙◌, ap}
use mathlib.Core.Bool.{true, false, ◌&&◌}
use mathlib.Core.List.{List, [], ◌∷◌}
use Prim.Native.Nat.{ℕ, zero, suc, ◌+◌, ◌*◌, ◌/◌, ◌%◌, ◌≤◌}
use native.Mathlib.Omega.{arith}
use lib.Dec.{ltb, eqb}
use lib.ListN.{length, drop, length-append, length-drop}
use lib.Seq.{length-take-le}
use borrow.Author.Tests.{ltb-false, eqb-true, not-false}
use Rattle.words.specs.Answer.{Answer, accepted}
use Rattle.words.specs.Buffer.{stretch}
use Rattle.words.specs.Decide.{decide}
use Rattle.words.specs.Word.{bytes_of}
use Rattle.words.proofs.DecideLaws.{decide_append}
use Rattle.words.proofs.WordLaws.{length_bytes_of}
use Rattle.wire.specs.Layout.{null_mark, scalar, blob, padded, payload, entry_words, values_in, max_rows, max_values, max_length, max_size}
use Rattle.wire.specs.Content.{nothing, word, bytes, content_in, cell_in, cells_in, row_in, rows_from, rows_in, cell_bytes, cells_bytes, row_bytes, rows_bytes, bytes_of_rows}
use Rattle.wire_check.specs.Writing.{id_in, type_in, aggregate_in, bits_in, length_in, total, bad_entry, first_bad, value_size, values_size, value_order, count_order, bad_table_lines, limit_lines, check_lines}
use Rattle.wire_check.specs.Stages.{Good, fit_values, fit_row, fit_rows, fitting}
use Rattle.wire_check.proofs.TableLaws.{by_test, none_wrong, tables_pass}
use Rattle.wire_check.proofs.LinesLaws.{check_lines_lem}
use Rattle.text_steps.specs.Tables.{blob_of, cells_of}
use Rattle.text_steps.proofs.SizeLaws.{null_cell, word_cell, blob_cell, row_size_lem, null_size}
use Rattle.text_promises.specs.Texts.{CellsWithin, RowsWithin, WithinLimits}
use Rattle.text_promises.proofs.Refusals.{passes}

module _ (area table : List ℕ) where
  -- One value

  module _ (k : ℕ) (good : bad_entry (length area) table k ≡ false) where
    long : blob (type_in table k) ≡ true → length (stretch area (bits_in table k) (length_in table k)) ≡ length_in table k
    long is =
        let facts = none_wrong (length area) (id_in table k) (type_in table k) (aggregate_in table k) (bits_in table k) (length_in table k) good in
        let inside : bits_in table k + length_in table k ≤ length area = ltb-false (length area) (bits_in table k + length_in table k) (rw is at facts.6) in
        length-take-le (length_in table k) (drop (bits_in table k) area) (rw (length-drop (bits_in table k) area) (omega arith))

    cell_size : value_size table k ≡ length (cell_bytes (cell_in area table k))
    unfolding payload
    cell_size =
        by_test (blob (type_in table k))
        (λ is. rw is (ap (λ (n : ℕ). 8 + padded n) (sym (long is)) ∙ sym (blob_cell (record { id = id_in table k; type = type_in table k; aggregate = aggregate_in table k; content = bytes (stretch area (bits_in table k) (length_in table k)) }) _ refl)))
        (λ isnt. by_test (scalar (type_in table k))
        (λ is. rw (isnt, is) (sym (word_cell (record { id = id_in table k; type = type_in table k; aggregate = aggregate_in table k; content = word (bits_in table k) }) _ refl)))
        (λ none. rw (isnt, none) (sym (null_cell (record { id = id_in table k; type = type_in table k; aggregate = aggregate_in table k; content = nothing }) refl))))

    blob_short : (blob (type_in table k) && ltb max_length (length_in table k)) ≡ false → length (blob_of (content_in area (type_in table k) (bits_in table k) (length_in table k))) ≤ max_length
    blob_short short =
        by_test (blob (type_in table k))
        (λ is. rw is (omega (arith, long is, ltb-false max_length (length_in table k) (rw is at short))))
        (λ isnt. by_test (scalar (type_in table k)) (λ is. rw (isnt, is) (omega arith)) (λ none. rw (isnt, none) (omega arith)))

  pub length_cells : (n k : ℕ) → length (cells_in area table n k) ≡ n
  unfolding cells_in
  length_cells zero k = refl
  length_cells (suc n) k = ap suc (length_cells n (k + entry_words))

  -- Values

  module _ (good : Good area table) where
    values_size_lem : (n k : ℕ) → k % entry_words ≡ 0 → k + entry_words * n ≤ length table → values_size table n k ≡ length (cells_bytes (cells_in area table n k))
    unfolding values_size cells_in cells_bytes
    values_size_lem zero k aligned inside = refl
    values_size_lem (suc n) k aligned inside =
        omega (arith, cell_size k (good k aligned (omega arith)), values_size_lem n (k + entry_words) (omega arith) (omega arith), length-append (cell_bytes (cell_in area table k)) (cells_bytes (cells_in area table n (k + entry_words))))

    values_told : (n k size m : ℕ) (rest : Answer) → k % entry_words ≡ 0 → k + entry_words * n ≤ length table → size ≤ max_size → fit_values table n k size rest ≡ accepted m []
        → CellsWithin (cells_in area table n k) × (size + values_size table n k ≤ max_size) × (rest ≡ accepted m [])
    unfolding fit_values value_order cells_in values_size
    values_told zero k size m rest aligned inside small e = (tt, omega arith, e)
    values_told (suc n) k size m rest aligned inside small e =
        let twelve = passes _ 12 _ _ m e in
        let thirteen = passes (ltb max_size (size + value_size table k)) 13 _ _ m twelve.1 in
        let sum : size + value_size table k ≤ max_size = ltb-false max_size _ thirteen.0 in
        let others = values_told n (k + entry_words) (size + value_size table k) m rest (omega arith) (omega arith) sum thirteen.1 in
        ((blob_short k (good k aligned (omega arith)) twelve.0, others.0), omega (arith, others.1), others.2)

    -- Rows

    module _ (count k : ℕ) (aligned : k % entry_words ≡ 0) (inside : k + entry_words * values_in count ≤ length table) where
      row_size_is : 8 + values_size table (values_in count) k ≡ length (row_bytes (row_in area table count k))
      unfolding values_size
      row_size_is =
          by_test (eqb count null_mark) (λ t. rw t (sym null_size))
          (λ t. let all : values_in count ≡ count = rw t in rw t (ap (λ (n : ℕ). 8 + n) (values_size_lem count k aligned (rw all at inside)) ∙ sym (row_size_lem (cells_in area table count k))))

      row_told : (i size m : ℕ) (rest : Answer) → fit_row table count i k size rest ≡ accepted m []
          → (length (cells_of (row_in area table count k)) ≤ max_values) × CellsWithin (cells_of (row_in area table count k)) × (size + (8 + values_size table (values_in count) k) ≤ max_size) × (rest ≡ accepted m [])
      unfolding fit_row count_order
      row_told i size m rest e =
          let thirteen = passes (ltb max_size (size + 8)) 13 _ _ m e in
          let eleven = passes _ 11 _ _ m thirteen.1 in
          let few : values_in count ≤ max_values = ltb-false max_values (values_in count) eleven.0 in
          let told = values_told (values_in count) k (size + 8) m rest aligned inside (ltb-false max_size _ thirteen.0) eleven.1 in
          by_test (eqb count null_mark)
          (λ t. (rw t (omega arith), rw t tt, omega (arith, told.1), told.2))
          (λ t. let all : values_in count ≡ count = rw t in
          (rw (t, length_cells count k) (rw all at few), rw t (rw all at told.0), omega (arith, told.1), told.2))

    rows_told : (rows : List ℕ) (i k size m : ℕ) (rest : Answer) → k % entry_words ≡ 0 → k + entry_words * total rows ≤ length table → size ≤ max_size → fit_rows rows table i k size rest ≡ accepted m []
        → RowsWithin (rows_from area rows table k) × (size + length (rows_bytes (rows_from area rows table k)) ≤ max_size)
    unfolding fit_rows rows_from rows_bytes total
    rows_told [] i k size m rest aligned inside small e = (tt, omega arith)
    rows_told (count ∷ rows) i k size m rest aligned inside small e =
        let mine = row_told count k aligned (omega arith) i size m _ e in
        let others = rows_told rows (i + 1) (k + entry_words * values_in count) (size + (8 + values_size table (values_in count) k)) m rest (omega arith) (omega arith) mine.2 mine.3 in
        ((mine.0, mine.1, others.0), omega (arith, others.1, row_size_is count k aligned (omega arith), length-append (row_bytes (row_in area table count k)) (rows_bytes (rows_from area rows table (k + entry_words * values_in count)))))

    length_rows : (rows : List ℕ) (k : ℕ) → length (rows_from area rows table k) ≡ length rows
    unfolding rows_from
    length_rows [] k = refl
    length_rows (count ∷ rows) k = ap suc (length_rows rows (k + entry_words * values_in count))

pub written_within : (area rows table : List ℕ) (n m : ℕ) → decide (check_lines area rows table) (accepted n []) ≡ accepted m [] → WithinLimits (rows_in area rows table)
unfolding check_lines fitting bytes_of_rows
written_within area rows table n m e =
    let all = sym (decide_append (bad_table_lines area rows table) (limit_lines rows table) (accepted n [])) ∙ e in
    let one = passes _ 18 _ _ m all in
    let two = passes _ 18 _ _ m one.1 in
    let three = passes _ 18 _ _ m two.1 in
    let four = passes _ 10 _ _ m three.1 in
    let whole : length table % entry_words ≡ 0 = eqb-true (length table % entry_words) 0 (not-false _ one.0) in
    let sums : eqb (total rows) (length table / entry_words) ≡ true = not-false _ two.0 in
    let few : length rows ≤ max_rows = ltb-false max_rows (length rows) four.0 in
    let passed = tables_pass area rows table whole sums (first_bad (length area) table) refl (ltb-false _ _ three.0) few in
    let walk : fit_rows rows table 0 0 8 (accepted n []) ≡ accepted m [] = sym (passed.1 _) ∙ sym (check_lines_lem area rows table (accepted n [])) ∙ e in
    let told = rows_told area table passed.0.good rows 0 0 8 m (accepted n []) refl (omega (arith, passed.0.whole)) (omega arith) walk in
    let count : length (rows_from area rows table 0) ≡ length rows = length_rows area table passed.0.good rows 0 in
    (told.0, omega arith, omega (arith, told.1, length-append (bytes_of 8 (length (rows_in area rows table))) (rows_bytes (rows_in area rows table)), length_bytes_of 8 (length (rows_in area rows table))))
