-- What is written has the plain form. Assumes nothing.
use mathlib.Core.Path.{◌≡◌, refl, sym, ◌∙◌, ap}
use mathlib.Core.Bool.{true}
use mathlib.Core.List.{List, [], ◌∷◌, ◌++◌, append_assoc}
use Prim.Native.Nat.{ℕ, zero, suc, ◌+◌, ◌^◌, ◌<◌, ◌≤◌}
use native.Mathlib.Nat.{add-zero}
use native.Mathlib.Omega.{arith}
use lib.Dec.{eqb}
use lib.ListN.{length, get_or, drop, replicate}
use lib.Seq.{get_or-drop}
use borrow.Author.Tests.{lt-ltb, le-ltb, eq-eqb, ne_eqb, eqb-true}
use Rattle.words.specs.Answer.{accepted}
use Rattle.words.specs.Word.{word as word_at, bytes_of}
use Rattle.wire.specs.Layout.{null_mark, max_size, max_values, boolean, padding, values_in, type_at, aggregate_at, length_at, scalar_at, count_at, next_value, next_row}
use Rattle.wire_read.specs.Plain.{zeros, plain_value, plain_values, plain_rows, plain}
use Rattle.wire_read.proofs.ReadingLaws.{accepts_walks}
use Rattle.wire.specs.Content.{Content, nothing, word, bytes, Cell, Row, null, values, length_word, content_bytes, cell_bytes, cells_bytes, row_bytes, rows_bytes, bytes_of_rows}
use Rattle.promises.specs.RowContent.{FitsType, GoodCells, GoodRow, GoodRows, Writable}
use Rattle.promises.proofs.CellRound.{by_test, word_stands, drop_behind, scalar_no_blob, reads_type, reads_aggregate, reads_length, behind_header, tail_stands}
use Rattle.promises.proofs.ContentRound.{count_is, behind_count, row_round, reads_count, reads_passes, behind}

-- zeros that stand at `at`
zeros_stand : (s tail : List ℕ) (n at : ℕ) → drop at s ≡ replicate n 0 ++ tail → zeros s n at ≡ true
unfolding zeros
zeros_stand s tail zero at e = refl
zeros_stand s tail (suc n) at e =
    let here : get_or s at 0 ≡ 0 = ap (λ (i : ℕ). get_or s i 0) (sym (add-zero at)) ∙ sym (get_or-drop at s 0 0) ∙ ap (λ (x : List ℕ). get_or x 0 0) e in
    rw (eq-eqb (get_or s at 0) 0 here) (zeros_stand s tail n (at + 1) (drop_behind s (0 ∷ []) (replicate n 0 ++ tail) at 1 e refl))

content_plain : (type : ℕ) (c : Content) → FitsType type c → (s tail : List ℕ) (at : ℕ) → type_at s at ≡ type → length_at s at ≡ length_word c → aggregate_at s at ≤ 1
    → drop (at + 8) s ≡ content_bytes c ++ tail → plain_value s at ≡ true
unfolding plain_value
content_plain type nothing e s tail at t n flags there = rw (lt-ltb (aggregate_at s at) 2 (omega arith), t, e, n)
content_plain type (word w) fits s tail at t n flags there =
    let is : scalar_at s at ≡ w = ap (word_at 8 s) (sym (add-zero (at + 8))) ∙ word_stands 8 0 w s [] tail (at + 8) there refl fits.1 in
    rw (lt-ltb (aggregate_at s at) 2 (omega arith), t, scalar_no_blob type fits.0, n, is)
    (by_test (eqb type boolean) (λ b. rw (b, lt-ltb w 2 (omega (arith, fits.2 (eqb-true type boolean b))))) (λ b. rw b))
content_plain type (bytes b) fits s tail at t n flags there =
    rw (lt-ltb (aggregate_at s at) 2 (omega arith), t, fits.0, n)
    (zeros_stand s tail (padding (length b)) (at + 8 + length b)
    (drop_behind s b (replicate (padding (length b)) 0 ++ tail) (at + 8) (length b) (there ∙ append_assoc b (replicate (padding (length b)) 0) tail) refl))

module _ (s : List ℕ) where
  cells_plain : (cells : List Cell) (at : ℕ) (tail : List ℕ) → GoodCells cells → drop at s ≡ cells_bytes cells ++ tail → plain_values s (length cells) at ≡ true
  unfolding cells_bytes plain_values
  cells_plain [] at tail good stands = refl
  cells_plain (c ∷ cells) at tail good stands =
      let after : List ℕ = cells_bytes cells ++ tail in
      let first : drop at s ≡ cell_bytes c ++ after = stands ∙ append_assoc (cell_bytes c) (cells_bytes cells) tail in
      let here : plain_value s at ≡ true =
      content_plain c.type c.content good.0.fits_type s after at (reads_type c good.0 s after at first) (reads_length c good.0 s after at first)
      (rw (reads_aggregate c good.0 s after at first) good.0.aggregate_bit) (behind_header c good.0 s after at first) in
      rw here (cells_plain cells (next_value s at) tail good.1 (tail_stands c good.0 s after at first))

  row_plain : (row : Row) (at : ℕ) (tail : List ℕ) → GoodRow row → drop at s ≡ row_bytes row ++ tail → plain_values s (values_in (count_at s at)) (at + 8) ≡ true
  unfolding plain_values
  row_plain null at tail good stands = rw (count_is s null_mark (omega arith) tail at stands)
  row_plain (values cells) at tail good stands =
      let n : ℕ = length cells in
      let few : n ≤ max_values = good.0 in
      let fits : n < 2 ^ 64 = omega arith in
      let nested : drop at s ≡ bytes_of 8 n ++ (cells_bytes cells ++ tail) = stands ∙ append_assoc (bytes_of 8 n) (cells_bytes cells) tail in
      rw (count_is s n fits (cells_bytes cells ++ tail) at nested, ne_eqb n null_mark (λ e. omega arith))
      (cells_plain cells (at + 8) tail good.1 (behind_count s n fits (cells_bytes cells ++ tail) at nested))

  pub rows_plain : (rows : List Row) (at : ℕ) (tail : List ℕ) → GoodRows rows → drop at s ≡ rows_bytes rows ++ tail → plain_rows s (length rows) at ≡ true
  unfolding rows_bytes plain_rows
  rows_plain [] at tail good stands = refl
  rows_plain (row ∷ rows) at tail good stands =
      let after : List ℕ = rows_bytes rows ++ tail in
      let first : drop at s ≡ row_bytes row ++ after = stands ∙ append_assoc (row_bytes row) (rows_bytes rows) tail in
      rw (row_plain row at after good.0 first) (rows_plain rows (next_row s at) tail good.1 (row_round s row at after good.0 first).0)

-- the bytes of content that can be written, where they are not too many, have the plain form
pub written_plain : (rows : List Row) → Writable rows → length (bytes_of_rows rows) ≤ max_size → plain (bytes_of_rows rows) ≡ true
unfolding plain
written_plain rows good small =
    rw (le-ltb max_size (length (bytes_of_rows rows)) small, accepts_walks (bytes_of_rows rows), reads_passes rows good (accepted 0 []), reads_count rows good) (rows_plain (bytes_of_rows rows) rows 8 [] good.1 (behind rows good))
