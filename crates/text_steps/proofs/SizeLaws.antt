-- The size of the rowset that rows would make, row by row and value by value, and what it bounds. Assumes nothing.
use mathlib.Core.Path.{◌≡◌, refl, sym, ◌∙◌, ap}
use mathlib.Core.List.{List, [], ◌∷◌, ◌++◌, append_assoc, append-nil}
use Prim.Native.Nat.{ℕ, zero, suc, ◌+◌, ◌*◌, ◌≤◌}
use native.Mathlib.Omega.{arith}
use lib.ListN.{length, replicate, length-append, length-replicate}
use Rattle.words.specs.Word.{bytes_of}
use Rattle.words.proofs.WordLaws.{length_bytes_of}
use Rattle.wire.specs.Layout.{padding, padded}
use Rattle.wire.specs.Content.{Content, nothing, word, bytes, Cell, Row, null, values, length_word, content_bytes, cell_bytes, cells_bytes, row_bytes, rows_bytes, bytes_of_rows}
use Rattle.text_form.specs.Limits.{size_with}
use Rattle.text_steps.specs.Tables.{blob_of, blobs, cells_of, all_cells}

rows_snoc : (rows : List Row) (r : Row) → length (rows_bytes (rows ++ r ∷ [])) ≡ length (rows_bytes rows) + length (row_bytes r)
unfolding rows_bytes
rows_snoc [] r = omega (arith, ap length (append-nil (row_bytes r)))
rows_snoc (x ∷ rows) r =
    length-append (row_bytes x) (rows_bytes (rows ++ r ∷ []))
    ∙ ap (λ (n : ℕ). length (row_bytes x) + n) (rows_snoc rows r)
    ∙ omega (arith, length-append (row_bytes x) (rows_bytes rows))

whole_size : (rows : List Row) → length (bytes_of_rows rows) ≡ 8 + length (rows_bytes rows)
unfolding bytes_of_rows
whole_size rows = length-append (bytes_of 8 (length rows)) (rows_bytes rows) ∙ rw (length_bytes_of 8 (length rows))

pub size_none : length (bytes_of_rows []) ≡ 8
unfolding rows_bytes
size_none = whole_size []

-- one more row
pub size_row : (rows : List Row) (r : Row) → length (bytes_of_rows (rows ++ r ∷ [])) ≡ length (bytes_of_rows rows) + length (row_bytes r)
size_row rows r = omega (arith, whole_size (rows ++ r ∷ []), whole_size rows, rows_snoc rows r)

cells_snoc : (cells : List Cell) (c : Cell) → length (cells_bytes (cells ++ c ∷ [])) ≡ length (cells_bytes cells) + length (cell_bytes c)
unfolding cells_bytes
cells_snoc [] c = omega (arith, ap length (append-nil (cell_bytes c)))
cells_snoc (x ∷ cells) c =
    length-append (cell_bytes x) (cells_bytes (cells ++ c ∷ []))
    ∙ ap (λ (n : ℕ). length (cell_bytes x) + n) (cells_snoc cells c)
    ∙ omega (arith, length-append (cell_bytes x) (cells_bytes cells))

pub row_size_lem : (cells : List Cell) → length (row_bytes (values cells)) ≡ 8 + length (cells_bytes cells)
row_size_lem cells = length-append (bytes_of 8 (length cells)) (cells_bytes cells) ∙ rw (length_bytes_of 8 (length cells))

pub null_size : length (row_bytes null) ≡ 8
null_size = length_bytes_of 8 _

pub empty_size : length (row_bytes (values [])) ≡ 8
unfolding cells_bytes
empty_size = row_size_lem []

-- one more value
pub size_cell : (rows : List Row) (cells : List Cell) (c : Cell) → size_with rows (cells ++ c ∷ []) ≡ size_with rows cells + length (cell_bytes c)
size_cell rows cells c =
    omega (arith, size_row rows (values (cells ++ c ∷ [])), size_row rows (values cells), row_size_lem (cells ++ c ∷ []), row_size_lem cells, cells_snoc cells c)

pub size_begun : (rows : List Row) → size_with rows [] ≡ length (bytes_of_rows rows) + 8
size_begun rows = omega (arith, size_row rows (values []), empty_size)

pub size_with_lem : (rows : List Row) (cells : List Cell) → size_with rows cells ≡ length (bytes_of_rows rows) + (8 + length (cells_bytes cells))
size_with_lem rows cells = omega (arith, size_row rows (values cells), row_size_lem cells)

pub row_snoc : (cells : List Cell) (c : Cell) → length (row_bytes (values (cells ++ c ∷ []))) ≡ length (row_bytes (values cells)) + length (cell_bytes c)
row_snoc cells c = omega (arith, row_size_lem (cells ++ c ∷ []), row_size_lem cells, cells_snoc cells c)

-- a value with its header
cell_size : (c : Cell) → length (cell_bytes c) ≡ 8 + length (content_bytes c.content)
cell_size c = simp (length-append, length_bytes_of) (omega arith)

pub null_cell : (c : Cell) → c.content ≡ nothing → length (cell_bytes c) ≡ 8
null_cell c e = cell_size c ∙ rw e

pub word_cell : (c : Cell) (w : ℕ) → c.content ≡ word w → length (cell_bytes c) ≡ 16
word_cell c w e = cell_size c ∙ rw e (ap (λ (n : ℕ). 8 + n) (length_bytes_of 8 w))

pub blob_cell : (c : Cell) (s : List ℕ) → c.content ≡ bytes s → length (cell_bytes c) ≡ 8 + padded (length s)
blob_cell c s e =
    cell_size c ∙ rw e (ap (λ (n : ℕ). 8 + n) (length-append s (replicate (padding (length s)) 0) ∙ ap (λ (n : ℕ). length s + n) (length-replicate {A = ℕ} (padding (length s)) 0)))

-- Blobs and values are no more than the bytes of their rows

blob_most : (content : Content) → length (blob_of content) ≤ length (content_bytes content)
blob_most nothing = omega arith
blob_most (word w) = omega arith
blob_most (bytes s) = omega (arith, length-append s (replicate (padding (length s)) 0))

pub blobs_snoc : (cells : List Cell) (c : Cell) → blobs (cells ++ c ∷ []) ≡ blobs cells ++ blob_of c.content
unfolding blobs
blobs_snoc [] c = append-nil (blob_of c.content)
blobs_snoc (x ∷ cells) c = ap (λ (l : List ℕ). blob_of x.content ++ l) (blobs_snoc cells c) ∙ sym (append_assoc (blob_of x.content) (blobs cells) (blob_of c.content))

pub blobs_join : (xs ys : List Cell) → blobs (xs ++ ys) ≡ blobs xs ++ blobs ys
unfolding blobs
blobs_join [] ys = refl
blobs_join (x ∷ xs) ys = ap (λ (l : List ℕ). blob_of x.content ++ l) (blobs_join xs ys) ∙ sym (append_assoc (blob_of x.content) (blobs xs) (blobs ys))

pub cells_join : (rows : List Row) (r : Row) → all_cells (rows ++ r ∷ []) ≡ all_cells rows ++ cells_of r
unfolding all_cells
cells_join [] r = append-nil (cells_of r)
cells_join (x ∷ rows) r = ap (λ (l : List Cell). cells_of x ++ l) (cells_join rows r) ∙ sym (append_assoc (cells_of x) (all_cells rows) (cells_of r))

pub cells_most : (cells : List Cell) → length (blobs cells) + 8 * length cells ≤ length (cells_bytes cells)
unfolding blobs cells_bytes
cells_most [] = omega arith
cells_most (c ∷ cells) =
    let rest : length (blobs cells) + 8 * length cells ≤ length (cells_bytes cells) = cells_most cells in
    omega (arith, length-append (blob_of c.content) (blobs cells), length-append (cell_bytes c) (cells_bytes cells), cell_size c, blob_most c.content)

row_most : (r : Row) → length (blobs (cells_of r)) + 8 * length (cells_of r) ≤ length (row_bytes r)
unfolding blobs
row_most null = omega arith
row_most (values cells) = omega (arith, cells_most cells, row_size_lem cells)

pub rows_most : (rows : List Row) → length (blobs (all_cells rows)) + 8 * length (all_cells rows) + 8 ≤ length (bytes_of_rows rows)
unfolding all_cells blobs rows_bytes
rows_most [] = omega (arith, whole_size [])
rows_most (r ∷ rows) =
    let rest : length (blobs (all_cells rows)) + 8 * length (all_cells rows) + 8 ≤ length (bytes_of_rows rows) = rows_most rows in
    omega (arith, row_most r, whole_size (r ∷ rows), whole_size rows, length-append (row_bytes r) (rows_bytes rows), ap length (blobs_join (cells_of r) (all_cells rows)), length-append (blobs (cells_of r)) (blobs (all_cells rows)), length-append (cells_of r) (all_cells rows))
