-- The content of rows, row by row, and the row words that it gives back. Assumes nothing.
use mathlib.Core.Path.{◌≡◌, refl, sym, ◌∙◌, ap}
use mathlib.Core.List.{List, [], ◌∷◌}
use Prim.Native.Nat.{ℕ, zero, suc, ◌+◌, ◌*◌, ◌<◌, ◌≤◌}
use native.Mathlib.Omega.{arith}
use lib.Dec.{eqb}
use lib.ListN.{length, get_or}
use borrow.Author.Tests.{eqb-true}
use Rattle.wire.specs.Layout.{null_mark, entry_words, values_in, count_at, next_value, next_row, next_rows, value_count, row_words}
use Rattle.wire_check.specs.Writing.{total}
use Rattle.wire.specs.Content.{Cell, Row, null, values, row_in, cells_in, rows_from}
use Rattle.promises.specs.RowContent.{cell_at, cells_at, row_at, rows_at}
use Rattle.promises.proofs.CellRound.{by_test}

-- the word of a row: its count, or the null mark
abbrev row_word : Row → ℕ
row_word null = null_mark
row_word (values cells) = length cells

words_of : List Row → List ℕ
words_of [] = []
words_of (row ∷ rows) = row_word row ∷ words_of rows

module _ (s : List ℕ) where
  pub length_cells_at : (n at : ℕ) → length (cells_at s n at) ≡ n
  unfolding cells_at
  length_cells_at zero at = refl
  length_cells_at (suc n) at = ap suc (length_cells_at n (next_value s at))

  word_at : (at : ℕ) → row_word (row_at s at) ≡ count_at s at
  word_at at = by_test (eqb (count_at s at) null_mark) (λ t. rw t (sym (eqb-true (count_at s at) null_mark t))) (λ t. rw t (length_cells_at (count_at s at) (at + 8)))

  words_at : (n at : ℕ) → words_of (rows_at s n at) ≡ row_words s n at
  unfolding words_of rows_at row_words
  words_at zero at = refl
  words_at (suc n) at = rw (word_at at, words_at n (next_row s at))

  pub length_rows_at : (n at : ℕ) → length (rows_at s n at) ≡ n
  unfolding rows_at
  length_rows_at zero at = refl
  length_rows_at (suc n) at = ap suc (length_rows_at n (next_row s at))

  -- row i
  pub rows_at_place : (n i at : ℕ) → i < n → get_or (rows_at s n at) i null ≡ row_at s (next_rows s i at)
  unfolding rows_at next_rows
  rows_at_place zero i at h = absurd (omega arith)
  rows_at_place (suc n) zero at h = refl
  rows_at_place (suc n) (suc i) at h = rows_at_place n i (next_row s at) (omega arith)

  -- as many values as the row words say
  pub total_read : (n at : ℕ) → total (row_words s n at) ≡ value_count s n at
  unfolding total row_words value_count
  total_read zero at = refl
  total_read (suc n) at = ap (λ (m : ℕ). values_in (count_at s at) + m) (total_read n (next_row s at))

  -- the values of row i are counted among those of n rows
  pub values_before : (n i at : ℕ) → i < n → value_count s i at + values_in (count_at s (next_rows s i at)) ≤ value_count s n at
  unfolding value_count next_rows
  values_before zero i at h = absurd (omega arith)
  values_before (suc n) zero at h = omega arith
  values_before (suc n) (suc i) at h = omega (arith, values_before n i (next_row s at) (omega arith))

module _ (area table : List ℕ) where
  length_cells_in : (n k : ℕ) → length (cells_in area table n k) ≡ n
  unfolding cells_in
  length_cells_in zero k = refl
  length_cells_in (suc n) k = ap suc (length_cells_in n (k + entry_words))

  word_in : (count k : ℕ) → row_word (row_in area table count k) ≡ count
  word_in count k = by_test (eqb count null_mark) (λ t. rw t (sym (eqb-true count null_mark t))) (λ t. rw t (length_cells_in count k))

  words_in : (rows : List ℕ) (k : ℕ) → words_of (rows_from area rows table k) ≡ rows
  unfolding words_of rows_from
  words_in [] k = refl
  words_in (count ∷ rows) k = rw (word_in count k, words_in rows (k + entry_words * values_in count))

-- an input that holds the content of tables has their row words
pub same_words : (s area rows table : List ℕ) (n at k : ℕ) → rows_at s n at ≡ rows_from area rows table k → row_words s n at ≡ rows
same_words s area rows table n at k same = sym (words_at s n at) ∙ ap words_of same ∙ words_in area table rows k
