-- Inputs that differ only in bytes that reading ignores have the same content and read alike. Assumes nothing.
use mathlib.Core.Path.{◌≡◌, refl, sym, ◌∙◌, ap}
use mathlib.Core.Bool.{true}
use mathlib.Core.List.{List}
use Prim.Native.Nat.{ℕ, zero, suc, ◌+◌, ◌-◌, ◌<◌, min}
use native.Mathlib.Omega.{arith}
use native.Mathlib.Nat.{add-zero}
use lib.Dec.{eqb}
use lib.ListN.{length, get_or, drop, length-take, length-drop}
use lib.Seq.{ext_get_or, get_or-take, get_or-drop}
use borrow.Author.Tests.{eqb-true, eqb-false}
use Rattle.words.specs.Answer.{Answer, afterwards}
use Rattle.words.specs.Buffer.{stretch}
use Rattle.words.specs.Word.{word as word_at}
use Rattle.words.proofs.WordLaws.{word_same}
use Rattle.wire.specs.Layout.{null_mark, boolean, scalar, blob, bits_of, values_in, type_at, length_at, scalar_at, count_at, next_value, next_values, next_row, next_rows, row_words, value_words}
use Rattle.wire_read.specs.Reading.{reading}
use Rattle.wire_read.proofs.Alike.{AlikeValue, AlikeValues, AlikeRows, Alike}
use Rattle.wire_read.proofs.AlikeLaws.{next_value_alike, values_alike, read_alike}
use Rattle.wire_read.proofs.Unique.{decoded_injective}
use Rattle.wire.specs.Content.{word, bytes, values}
use Rattle.promises.specs.RowContent.{content_at, cell_at, cells_at, row_at, rows_at, rows_of}
use Rattle.promises.specs.Rowsets.{Agree, SameValue, DifferOnlyThere, IgnoredBytes}
use Rattle.promises.proofs.CellRound.{by_test}

module _ (s t : List ℕ) (same : length s ≡ length t) where
  agree_word : (k from : ℕ) → Agree s t from k → word_at k s from ≡ word_at k t from
  agree_word k from agree = word_same k s t from from agree

  -- a stretch whose bytes agree
  agree_stretch : (from n : ℕ) → Agree s t from n → stretch s from n ≡ stretch t from n
  agree_stretch from n agree =
      ext_get_or 0 (stretch s from n) (stretch t from n) (simp (length-take, length-drop) (ap (λ (m : ℕ). min n (m - from)) same))
      (λ i h. let below : i < n = omega (arith, simp length-take at h) in
      get_or-take n (drop from s) i 0 below ∙ get_or-drop from s i 0 ∙ agree i below ∙ sym (get_or-drop from t i 0) ∙ sym (get_or-take n (drop from t) i 0 below))

  module _ (at : ℕ) (value : SameValue s t at) where
    type_same : type_at s at ≡ type_at t at
    type_same = ap (λ (k : ℕ). get_or s k 0) (sym (add-zero (at + 2))) ∙ value.type 0 (omega arith) ∙ ap (λ (k : ℕ). get_or t k 0) (add-zero (at + 2))

    bits_same : scalar (type_at s at) ≡ true → bits_of (type_at s at) (scalar_at s at) ≡ bits_of (type_at s at) (scalar_at t at)
    bits_same is =
        by_test (eqb (type_at s at) boolean) (λ b. rw b (value.boolean_word (eqb-true (type_at s at) boolean b)))
        (λ b. rw b (agree_word 8 (at + 8) (value.scalar_word is (eqb-false (type_at s at) boolean b))))

    pub value_alike : AlikeValue s t at
    value_alike =
        record {
          id = agree_word 2 at value.id;
          type = type_same;
          aggregate = value.aggregate;
          blob_length = λ is. agree_word 4 (at + 4) (value.blob_length is);
          scalar_bits = bits_same;
        }

    content_same : content_at s at ≡ content_at t at
    content_same =
        by_test (blob (type_at s at))
        (λ is. rw (← type_same, is) (ap bytes (agree_stretch (at + 8) (length_at s at) (value.blob_bytes_lem is) ∙ ap (stretch t (at + 8)) (agree_word 4 (at + 4) (value.blob_length is)))))
        (λ isnt. by_test (scalar (type_at s at)) (λ is. rw (← type_same, isnt, is) (ap word (bits_same is))) (λ none. rw (← type_same, isnt, none)))

    pub cell_same : cell_at s at ≡ cell_at t at
    cell_same = let id = agree_word 2 at value.id in λ i. record { id = id i; type = type_same i; aggregate = value.aggregate i; content = content_same i }

  -- n values from `at` on
  cells_same : (n at : ℕ) → ((j : ℕ) → j < n → SameValue s t (next_values s j at)) → AlikeValues s t n at × (cells_at s n at ≡ cells_at t n at)
  unfolding cells_at next_values
  cells_same zero at each = (tt, refl)
  cells_same (suc n) at each =
      let first : SameValue s t at = each 0 (omega arith) in
      let next : next_value s at ≡ next_value t at = next_value_alike s t same at (value_alike at first) in
      let others = cells_same n (next_value s at) (λ j less. each (suc j) (omega arith)) in
      ((value_alike at first, others.0), rw (cell_same at first, others.1, next))

  row_same : (at : ℕ) → count_at s at ≡ count_at t at → ((j : ℕ) → j < values_in (count_at s at) → SameValue s t (next_values s j (at + 8))) → row_at s at ≡ row_at t at
  row_same at count each =
      by_test (eqb (count_at s at) null_mark) (λ b. rw (← count, b))
      (λ b. rw (← count, b) (ap values (cells_same (count_at s at) (at + 8) (rw b at each)).1))

  next_same : (at : ℕ) → count_at s at ≡ count_at t at → AlikeValues s t (values_in (count_at s at)) (at + 8) → next_row s at ≡ next_row t at
  unfolding next_row
  next_same at count alike = (values_alike s t same (values_in (count_at s at)) (at + 8) alike).0 ∙ ap (λ (n : ℕ). next_values t (values_in n) (at + 8)) count

  rows_same : (n at : ℕ) → ((i : ℕ) → i < n → Agree s t (next_rows s i at) 8)
      → ((i j : ℕ) → i < n → j < values_in (count_at s (next_rows s i at)) → SameValue s t (next_values s j (next_rows s i at + 8)))
      → AlikeRows s t n at × (rows_at s n at ≡ rows_at t n at)
  unfolding rows_at next_rows
  rows_same zero at counts each = (tt, refl)
  rows_same (suc n) at counts each =
      let count : count_at s at ≡ count_at t at = agree_word 8 at (counts 0 (omega arith)) in
      let inside : (j : ℕ) → j < values_in (count_at s at) → SameValue s t (next_values s j (at + 8)) = λ j less. each 0 j (omega arith) less in
      let alike : AlikeValues s t (values_in (count_at s at)) (at + 8) = (cells_same (values_in (count_at s at)) (at + 8) inside).0 in
      let next : next_row s at ≡ next_row t at = next_same at count alike in
      let others = rows_same n (next_row s at) (λ i less. counts (suc i) (omega arith)) (λ i j less few. each (suc i) j (omega arith) few) in
      ((count, alike, others.0), rw (row_same at count inside, others.1, next))

alike : (s t : List ℕ) → DifferOnlyThere s t → Alike s t × (rows_of s ≡ rows_of t)
alike s t differ =
    let same : length s ≡ length t = differ.size in
    let count : count_at s 0 ≡ count_at t 0 = agree_word s t same 8 0 differ.row_count in
    let rows = rows_same s t same (count_at s 0) 8 differ.counts differ.values in
    (record { size = same; count = count; rows = rows.0 }, rows.1 ∙ ap (λ (n : ℕ). rows_at t n 8) count)

pub ignored_bytes : IgnoredBytes
ignored_bytes s t differ =
    let both = alike s t differ in (
      both.1,
      λ rows values r r' rows' values' rows'' values'' p q.
          let read = read_alike s t both.0 (length rows) (length values) in (
            decoded_injective r r' (p.0 ∙ read.0 ∙ sym q.0),
            p.1 ∙ ap (λ (a : Answer). afterwards a (row_words s (count_at s 0) 8) rows) read.0 ∙ ap (λ (ws : List ℕ). afterwards (reading t (length rows) (length values)) ws rows) read.1 ∙ sym q.1,
            p.2 ∙ ap (λ (a : Answer). afterwards a (value_words s (count_at s 0) 8) values) read.0 ∙ ap (λ (ws : List ℕ). afterwards (reading t (length rows) (length values)) ws values) read.2 ∙ sym q.2,
          ),
    )
