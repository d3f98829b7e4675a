-- Round trip: the bytes of content that can be written are accepted, and hold that content. Assumes nothing.
use mathlib.Core.Path.{◌≡◌, refl, sym, ◌∙◌, ap}
use mathlib.Core.Bool.{true, false, not, ◌&&◌, and-false}
use mathlib.Core.List.{List, [], ◌∷◌, ◌++◌, append_assoc, append-nil}
use Prim.Native.Nat.{ℕ, zero, suc, ◌+◌, ◌-◌, ◌*◌, ◌^◌, ◌<◌, ◌≤◌}
use native.Mathlib.Nat.{add-zero}
use native.Mathlib.Omega.{arith}
use lib.Dec.{ltb, eqb}
use lib.ListN.{length, get_or, drop, length-append, length-drop}
use borrow.Author.Tests.{le-ltb, eq-eqb, ne_eqb}
use Rattle.words.specs.Answer.{Answer}
use Rattle.words.specs.Decide.{pick, decide}
use Rattle.words.specs.Word.{bytes_of}
use Rattle.words.proofs.WordLaws.{length_bytes_of}
use Rattle.wire.specs.Layout.{null_mark, max_rows, max_values, values_in, count_at, next_value, next_values, next_row, next_rows}
use Rattle.wire_value.specs.ValueOrder.{value_order}
use Rattle.wire_read.specs.Stages.{read_values, count_order, read_row, read_rows, head_order, read_rowset}
use Rattle.wire.specs.Content.{Cell, Row, null, values, cell_bytes, cells_bytes, row_bytes, rows_bytes, bytes_of_rows}
use Rattle.promises.specs.RowContent.{cell_at, cells_at, row_at, rows_at, rows_of, GoodCells, GoodRow, GoodRows, Writable}
use Rattle.promises.proofs.CellRound.{word_stands, drop_behind, tail_stands, value_passes, cell_read}

module _ (s : List ℕ) where
  -- values that stand at `at`
  pub cells_round : (cells : List Cell) (at : ℕ) (tail : List ℕ) → GoodCells cells → drop at s ≡ cells_bytes cells ++ tail
      → (drop (next_values s (length cells) at) s ≡ tail)
      × ((rest : Answer) → read_values s (length cells) at rest ≡ rest)
      × (cells_at s (length cells) at ≡ cells)
  unfolding cells_bytes next_values read_values cells_at
  cells_round [] at tail good stands = (stands, (λ rest. refl), refl)
  cells_round (c ∷ cells) at tail good stands =
      let behind : List ℕ = cells_bytes cells ++ tail in
      let first : drop at s ≡ cell_bytes c ++ behind = stands ∙ append_assoc (cell_bytes c) (cells_bytes cells) tail in
      let others = cells_round cells (next_value s at) tail good.1 (tail_stands c good.0 s behind at first) in (
        others.0,
        (λ rest. value_passes c good.0 s behind at first _ ∙ others.1 rest),
        ap (λ (one : Cell). one ∷ cells_at s (length cells) (next_value s at)) (cell_read c good.0 s behind at first) ∙ ap (◌∷◌ c) others.2,
      )

  -- eight bytes of a count that stands at `at`
  module _ (n : ℕ) (fits : n < 2 ^ 64) (body : List ℕ) (at : ℕ) (stands : drop at s ≡ bytes_of 8 n ++ body) where
    pub count_is : count_at s at ≡ n
    count_is = ap (λ (i : ℕ). count_at s i) (sym (add-zero at)) ∙ word_stands 8 0 n s [] body at stands refl fits

    count_there : 8 ≤ length s - at
    count_there =
        let size : length s - at ≡ 8 + length body =
        sym (length-drop at s) ∙ ap length stands ∙ length-append (bytes_of 8 n) body ∙ ap (λ (m : ℕ). m + length body) (length_bytes_of 8 n) in
        omega arith

    pub behind_count : drop (at + 8) s ≡ body
    behind_count = drop_behind s (bytes_of 8 n) body at 8 stands (length_bytes_of 8 n)

  -- a row that stands at `at`
  pub row_round : (row : Row) (at : ℕ) (tail : List ℕ) → GoodRow row → drop at s ≡ row_bytes row ++ tail
      → (drop (next_row s at) s ≡ tail)
      × ((i : ℕ) (rest : Answer) → read_row s i at rest ≡ rest)
      × (row_at s at ≡ row)
  unfolding next_row next_values read_row count_order read_values
  row_round null at tail good stands =
      let is : count_at s at ≡ null_mark = count_is null_mark (omega arith) tail at stands in (
        rw is (behind_count null_mark (omega arith) tail at stands),
        (λ i rest. rw (le-ltb (length s - at) 8 (count_there null_mark (omega arith) tail at stands), is)),
        rw is,
      )
  row_round (values cells) at tail good stands =
      let n : ℕ = length cells in
      let few : n ≤ max_values = good.0 in
      let fits : n < 2 ^ 64 = omega arith in
      let nested : drop at s ≡ bytes_of 8 n ++ (cells_bytes cells ++ tail) = stands ∙ append_assoc (bytes_of 8 n) (cells_bytes cells) tail in
      let is : count_at s at ≡ n = count_is n fits (cells_bytes cells ++ tail) at nested in
      let some : eqb n null_mark ≡ false = ne_eqb n null_mark (λ e. omega arith) in
      let inside = cells_round cells (at + 8) tail good.1 (behind_count n fits (cells_bytes cells ++ tail) at nested) in (
        rw (is, some) inside.0,
        (λ i rest. rw (le-ltb (length s - at) 8 (count_there n fits (cells_bytes cells ++ tail) at nested), is, some, le-ltb max_values n few) (inside.1 rest)),
        rw (is, some) (ap values inside.2),
      )

  pub rows_round : (rows : List Row) (at : ℕ) (tail : List ℕ) → GoodRows rows → drop at s ≡ rows_bytes rows ++ tail
      → (drop (next_rows s (length rows) at) s ≡ tail)
      × ((i : ℕ) (rest : Answer) → read_rows s (length rows) i at rest ≡ rest)
      × (rows_at s (length rows) at ≡ rows)
  unfolding rows_bytes next_rows read_rows rows_at
  rows_round [] at tail good stands = (stands, (λ i rest. refl), refl)
  rows_round (row ∷ rows) at tail good stands =
      let behind : List ℕ = rows_bytes rows ++ tail in
      let first = row_round row at behind good.0 (stands ∙ append_assoc (row_bytes row) (rows_bytes rows) tail) in
      let others = rows_round rows (next_row s at) tail good.1 first.0 in (
        others.0,
        (λ i rest. first.1 i _ ∙ others.1 (i + 1) rest),
        ap (λ (one : Row). one ∷ rows_at s (length rows) (next_row s at)) first.2 ∙ ap (◌∷◌ row) others.2,
      )

-- nothing stands behind the end
ended : (s : List ℕ) (at : ℕ) → drop at s ≡ [] → length s ≤ at
ended s at e = let none : length s - at ≡ 0 = sym (length-drop at s) ∙ ap length e in omega arith

module _ (rows : List Row) (good : Writable rows) where
  fits : length rows < 2 ^ 64
  fits = omega (arith, good.0)

  pub behind : drop 8 (bytes_of_rows rows) ≡ rows_bytes rows ++ []
  unfolding bytes_of_rows
  behind = drop_behind (bytes_of 8 (length rows) ++ rows_bytes rows) (bytes_of 8 (length rows)) (rows_bytes rows) 0 8 refl (length_bytes_of 8 (length rows)) ∙ sym (append-nil (rows_bytes rows))

  pub reads_count : count_at (bytes_of_rows rows) 0 ≡ length rows
  unfolding bytes_of_rows
  reads_count = count_is (bytes_of 8 (length rows) ++ rows_bytes rows) (length rows) fits (rows_bytes rows) 0 refl

  all : (drop (next_rows (bytes_of_rows rows) (length rows) 8) (bytes_of_rows rows) ≡ [])
      × ((i : ℕ) (rest : Answer) → read_rows (bytes_of_rows rows) (length rows) i 8 rest ≡ rest)
      × (rows_at (bytes_of_rows rows) (length rows) 8 ≡ rows)
  all = rows_round (bytes_of_rows rows) rows 8 [] good.1 behind

  pub reads_passes : (rest : Answer) → read_rowset (bytes_of_rows rows) rest ≡ rest
  unfolding read_rowset head_order bytes_of_rows
  reads_passes rest =
      let s : List ℕ = bytes_of 8 (length rows) ++ rows_bytes rows in
      rw (le-ltb (length s - 0) 8 (count_there s (length rows) fits (rows_bytes rows) 0 refl), reads_count, le-ltb max_rows (length rows) good.0)
      (all.1 0 _ ∙ rw (le-ltb (next_rows s (length rows) 8) (length s) (ended s _ all.0)))

  pub reads_rows : rows_of (bytes_of_rows rows) ≡ rows
  reads_rows = rw reads_count all.2
