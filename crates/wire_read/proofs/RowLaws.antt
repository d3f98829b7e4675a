-- Every row in its place: row i of the tables is what stands at row i of the input, a null row too. Assumes nothing.
use mathlib.Core.Path.{◌≡◌, refl, ◌∙◌}
use mathlib.Core.List.{List}
use Prim.Native.Nat.{ℕ, zero, suc, ◌+◌, ◌-◌, ◌*◌, ◌<◌, ◌≤◌}
use native.Mathlib.Omega.{arith}
use lib.ListN.{length, get_or, take, drop}
use lib.Seq.{drop-append-add, take_at}
use Rattle.words.specs.Buffer.{stretch}
use Rattle.wire.specs.Layout.{entry_words, values_in, count_at, next_value, next_values, next_row, next_rows, value_count, entry, entries, row_words, value_words}
use Rattle.wire.proofs.LayoutLaws.{length_entries}

module _ (s : List ℕ) where
  -- the word of row i is the count that stands where i rows end
  pub row_word : (n i at : ℕ) → i < n → get_or (row_words s n at) i 0 ≡ count_at s (next_rows s i at)
  unfolding row_words next_rows
  row_word zero i at h = absurd (omega arith)
  row_word (suc n) zero at h = refl
  row_word (suc n) (suc i) at h = row_word n i (next_row s at) (omega arith)

  -- the entries from row i on are those of the values from there on
  pub entries_from_row : (n i at : ℕ) → i ≤ n → drop (entry_words * value_count s i at) (value_words s n at) ≡ value_words s (n - i) (next_rows s i at)
  unfolding value_words next_rows value_count
  entries_from_row n zero at h = let all : n - 0 ≡ n = omega arith in rw all
  entries_from_row zero (suc i) at h = absurd (omega arith)
  entries_from_row (suc n) (suc i) at h =
      let first = entries s (values_in (count_at s at)) (at + 8) in
      let size : length first ≡ entry_words * values_in (count_at s at) = length_entries s (values_in (count_at s at)) (at + 8) in
      let split : entry_words * (values_in (count_at s at) + value_count s i (next_row s at)) ≡ length first + entry_words * value_count s i (next_row s at) = omega arith in
      let less : suc n - suc i ≡ n - i = omega arith in
      rw (split, less)
      (drop-append-add first (value_words s n (next_row s at)) (entry_words * value_count s i (next_row s at)) ∙ entries_from_row n i (next_row s at) (omega arith))

  first_of : (m at : ℕ) → 0 < m → take (entry_words * values_in (count_at s at)) (value_words s m at) ≡ entries s (values_in (count_at s at)) (at + 8)
  unfolding value_words
  first_of zero at h = absurd (omega arith)
  first_of (suc m) at h = take_at (entries s (values_in (count_at s at)) (at + 8)) (value_words s m (next_row s at)) (entry_words * values_in (count_at s at)) (length_entries s (values_in (count_at s at)) (at + 8))

  -- the entries of row i are those of the values that stand behind its count
  pub row_entries : (n i at : ℕ) → i < n
      → stretch (value_words s n at) (entry_words * value_count s i at) (entry_words * values_in (count_at s (next_rows s i at))) ≡ entries s (values_in (count_at s (next_rows s i at))) (next_rows s i at + 8)
  row_entries n i at h =
      rw (entries_from_row n i at (omega arith)) (first_of (n - i) (next_rows s i at) (omega arith))

  -- value j of a row: its entry stands at the word 5 j of the row's, where j values end
  pub value_entry : (n j at : ℕ) → j ≤ n → drop (entry_words * j) (entries s n at) ≡ entries s (n - j) (next_values s j at)
  unfolding entries next_values entry
  value_entry n zero at h = let all : n - 0 ≡ n = omega arith in rw all
  value_entry zero (suc j) at h = absurd (omega arith)
  value_entry (suc n) (suc j) at h =
      let less : suc n - suc j ≡ n - j = omega arith in
      let more : entry_words * suc j ≡ suc (suc (suc (suc (suc (entry_words * j))))) = omega arith in
      rw (less, more) (value_entry n j (next_value s at) (omega arith))
