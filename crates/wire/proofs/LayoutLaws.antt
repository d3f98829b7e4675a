-- Laws of the walk over a rowset's bytes: how far it goes, how many words it gives, and how the words stand in a table.
-- Assumes nothing.
use mathlib.Core.Path.{◌≡◌, refl, ◌∙◌, ap}
use mathlib.Core.List.{List, [], ◌∷◌, ◌++◌}
use Prim.Native.Nat.{ℕ, zero, suc, ◌+◌, ◌-◌, ◌*◌, ◌<◌, ◌≤◌}
use native.Mathlib.Omega.{arith}
use lib.ListN.{length, set, length-append}
use lib.Seq.{sets}
use Rattle.wire.specs.Layout.{values_in, count_at, next_value, next_values, next_row, next_rows, value_count, entry, entries, row_words, value_words, payload_at, entry_words}

-- One more: the first value or row of a walk, and the others

module _ (s : List ℕ) where
  pub next_values_more : (n at : ℕ) → 0 < n → next_values s n at ≡ next_values s (n - 1) (next_value s at)
  unfolding next_values
  next_values_more zero at h = absurd (omega arith)
  next_values_more (suc m) at h = let e : suc m - 1 ≡ m = omega arith in rw e

  pub entries_more : (n at : ℕ) → 0 < n → entries s n at ≡ entry s at (entries s (n - 1) (next_value s at))
  unfolding entries
  entries_more zero at h = absurd (omega arith)
  entries_more (suc m) at h = let e : suc m - 1 ≡ m = omega arith in rw e

  module _ (count row : ℕ) (h : row < count) (at : ℕ) where
    one_less : count - row ≡ suc (count - (row + 1))
    one_less = omega arith

    pub next_rows_more : next_rows s (count - row) at ≡ next_rows s (count - (row + 1)) (next_row s at)
    unfolding next_rows
    next_rows_more = rw one_less

    pub value_count_more : value_count s (count - row) at ≡ values_in (count_at s at) + value_count s (count - (row + 1)) (next_row s at)
    unfolding value_count
    value_count_more = rw one_less

    pub row_words_more : row_words s (count - row) at ≡ count_at s at ∷ row_words s (count - (row + 1)) (next_row s at)
    unfolding row_words
    row_words_more = rw one_less

    pub value_words_more : value_words s (count - row) at ≡ entries s (values_in (count_at s at)) (at + 8) ++ value_words s (count - (row + 1)) (next_row s at)
    unfolding value_words
    value_words_more = rw one_less

  -- How far: eight bytes at least for each value and each row

  pub next_value_far : (at : ℕ) → at + 8 ≤ next_value s at
  unfolding next_value
  next_value_far at = let n : ℕ = payload_at s at in omega arith

  pub next_values_far : (n at : ℕ) → at + 8 * n ≤ next_values s n at
  unfolding next_values
  next_values_far zero at = omega arith
  next_values_far (suc n) at = omega (arith, next_value_far at, next_values_far n (next_value s at))

  pub next_row_far : (at : ℕ) → at + 8 + 8 * values_in (count_at s at) ≤ next_row s at
  unfolding next_row
  next_row_far at = next_values_far (values_in (count_at s at)) (at + 8)

  pub next_rows_far : (n at : ℕ) → at + 8 * n ≤ next_rows s n at
  unfolding next_rows
  next_rows_far zero at = omega arith
  next_rows_far (suc n) at = omega (arith, next_row_far at, next_rows_far n (next_row s at))

  -- How many words

  pub length_entries : (n at : ℕ) → length (entries s n at) ≡ entry_words * n
  unfolding entries entry
  length_entries zero at = refl
  length_entries (suc n) at = omega (arith, length_entries n (next_value s at))

  pub length_row_words : (n at : ℕ) → length (row_words s n at) ≡ n
  unfolding row_words
  length_row_words zero at = refl
  length_row_words (suc n) at = ap suc (length_row_words n (next_row s at))

  pub length_value_words : (n at : ℕ) → length (value_words s n at) ≡ entry_words * value_count s n at
  unfolding value_words value_count
  length_value_words zero at = refl
  length_value_words (suc n) at =
      simp length-append (omega (arith, length_entries (values_in (count_at s at)) (at + 8), length_value_words n (next_row s at)))

-- Runs of stores

pub sets_append : (xs : List ℕ) (i n : ℕ) (ys zs : List ℕ) → length ys ≡ n → sets xs i (ys ++ zs) ≡ sets (sets xs i ys) (i + n) zs
sets_append xs i n [] zs e = ap (λ (k : ℕ). sets xs k zs) (omega arith)
sets_append xs i n (y ∷ ys) zs e =
    sets_append (set xs i y) (suc i) (length ys) ys zs refl ∙ ap (λ (k : ℕ). sets (sets xs i (y ∷ ys)) k zs) (omega arith)

-- an entry, and what follows it behind its five words
pub sets_entry : (xs : List ℕ) (k : ℕ) (s : List ℕ) (at : ℕ) (more : List ℕ) → sets xs k (entry s at more) ≡ sets (sets xs k (entry s at [])) (k + entry_words) more
unfolding entry
sets_entry xs k s at more = ap (λ (i : ℕ). sets (sets xs k (entry s at [])) i more) (omega arith)
