-- The content of lent tables: of those that reading fills, and of those that can be written. Assumes nothing.
use mathlib.Core.Path.{◌≡◌, refl, sym, ◌∙◌, ap}
use mathlib.Core.Bool.{Bool, true, false, not, ◌&&◌, false≢true}
use mathlib.Core.List.{List, [], ◌∷◌, ◌++◌, append_assoc, append-nil}
use Prim.Native.Nat.{ℕ, zero, suc, ◌+◌, ◌-◌, ◌*◌, ◌/◌, ◌%◌, ◌^◌, ◌<◌, ◌≤◌}
use native.Mathlib.Nat.{add-zero}
use native.Mathlib.Omega.{arith}
use lib.Dec.{ltb, eqb}
use lib.ListN.{length, get_or, take, drop, length-append, length-drop}
use lib.Seq.{get_or-drop, drop-drop, drop-append_seam, length-take-le, take_at}
use borrow.Author.Tests.{le-ltb, eq-eqb, ne_eqb, ltb-false, eqb-true, not-false}
use Rattle.words.specs.Buffer.{stretch, over}
use Rattle.words.specs.Decide.{pick}
use Rattle.words.specs.Word.{bytes_of}
use Rattle.wire.specs.Layout.{null_mark, max_length, entry_words, boolean, scalar, blob, known, values_in, type_at, length_at, scalar_at, bits_of, count_at, next_value, next_row, entry, fourth, fifth, entries, row_words, value_words}
use Rattle.wire.proofs.LayoutLaws.{length_entries}
use Rattle.wire.specs.Content.{Content, nothing, word, bytes, Cell, Row, null, values, content_in, cell_in, cells_in, rows_from, rows_in}
use Rattle.promises.specs.RowContent.{content_at, cell_at, cells_at, row_at, rows_at, rows_of}
use Rattle.promises.proofs.CellRound.{by_test, drop_behind}

-- The tables that reading fills hold the content of the input

-- word i of an entry that stands at the word k
pub word_there : (table : List ℕ) (k i : ℕ) (ws : List ℕ) → drop k table ≡ ws → get_or table (k + i) 0 ≡ get_or ws i 0
word_there table k i ws e = sym (get_or-drop k table i 0) ∙ ap (λ (l : List ℕ). get_or l i 0) e

module _ (s : List ℕ) where
  content_same : (at : ℕ) → content_in s (type_at s at) (fourth s at) (fifth s at) ≡ content_at s at
  unfolding fourth fifth
  content_same at =
      by_test (blob (type_at s at)) (λ is. rw is) (λ isnt. by_test (scalar (type_at s at)) (λ is. rw (isnt, is)) (λ none. rw (isnt, none)))

  cell_filled : (table more : List ℕ) (k at : ℕ) → drop k table ≡ entry s at more → cell_in s table k ≡ cell_at s at
  unfolding entry
  cell_filled table more k at stands =
      let first = ap (λ (i : ℕ). get_or table i 0) (sym (add-zero k)) ∙ word_there table k 0 _ stands in
      let second = word_there table k 1 _ stands in
      let third = word_there table k 2 _ stands in
      let last = word_there table k 3 _ stands in
      let end = word_there table k 4 _ stands in
      let content : content_in s (get_or table (k + 1) 0) (get_or table (k + 3) 0) (get_or table (k + 4) 0) ≡ content_at s at = rw (second, last, end) (content_same at) in
      λ i. record { id = first i; type = second i; aggregate = third i; content = content i }

  pub behind_entry : (table more : List ℕ) (k at : ℕ) → drop k table ≡ entry s at more → drop (k + entry_words) table ≡ more
  unfolding entry
  behind_entry table more k at stands = sym (drop-drop entry_words k table) ∙ ap (drop entry_words) stands

  pub entry_append : (at : ℕ) (more tail : List ℕ) → entry s at more ++ tail ≡ entry s at (more ++ tail)
  unfolding entry
  entry_append at more tail = refl

  cells_filled : (table : List ℕ) (n k at : ℕ) (tail : List ℕ) → drop k table ≡ entries s n at ++ tail → cells_in s table n k ≡ cells_at s n at
  unfolding entries cells_in cells_at
  cells_filled table zero k at tail stands = refl
  cells_filled table (suc n) k at tail stands =
      let first : drop k table ≡ entry s at (entries s n (next_value s at) ++ tail) = stands ∙ entry_append at (entries s n (next_value s at)) tail in
      ap (λ (c : Cell). c ∷ cells_in s table n (k + entry_words)) (cell_filled table (entries s n (next_value s at) ++ tail) k at first)
      ∙ ap (◌∷◌ (cell_at s at)) (cells_filled table n (k + entry_words) (next_value s at) tail (behind_entry table (entries s n (next_value s at) ++ tail) k at first))

  row_filled : (table : List ℕ) (k at : ℕ) (tail : List ℕ) → drop k table ≡ entries s (values_in (count_at s at)) (at + 8) ++ tail
      → pick (eqb (count_at s at) null_mark) null (values (cells_in s table (count_at s at) k)) ≡ row_at s at
  row_filled table k at tail stands =
      by_test (eqb (count_at s at) null_mark) (λ t. rw t)
      (λ t. let filled : cells_in s table (count_at s at) k ≡ cells_at s (count_at s at) (at + 8) = cells_filled table (count_at s at) k (at + 8) tail (rw t at stands) in rw t (ap values filled))

  rows_filled : (table : List ℕ) (n k at : ℕ) (tail : List ℕ) → drop k table ≡ value_words s n at ++ tail → rows_from s (row_words s n at) table k ≡ rows_at s n at
  unfolding row_words value_words rows_from rows_at
  rows_filled table zero k at tail stands = refl
  rows_filled table (suc n) k at tail stands =
      let m : ℕ = values_in (count_at s at) in
      let others : List ℕ = value_words s n (next_row s at) ++ tail in
      let first : drop k table ≡ entries s m (at + 8) ++ others = stands ∙ append_assoc (entries s m (at + 8)) (value_words s n (next_row s at)) tail in
      let behind : drop (k + entry_words * m) table ≡ others = drop_behind table (entries s m (at + 8)) others k (entry_words * m) first (length_entries s m (at + 8)) in
      ap (λ (row : Row). row ∷ rows_from s (row_words s n (next_row s at)) table (k + entry_words * m)) (row_filled table k at others first)
      ∙ ap (◌∷◌ (row_at s at)) (rows_filled table n (k + entry_words * m) (next_row s at) tail behind)

pub tables_filled : (s table tail : List ℕ) → table ≡ value_words s (count_at s 0) 8 ++ tail → rows_in s (row_words s (count_at s 0) 8) table ≡ rows_of s
tables_filled s table tail e = rows_filled s table (count_at s 0) 0 8 tail e
