-- Attributes that stand in the errors' order stand so when they are sorted by their error. Assumes nothing.
use mathlib.Core.Path.{◌≡◌, refl, sym, ◌∙◌, ap}
use mathlib.Core.List.{List, [], ◌∷◌, ◌++◌}
use mathlib.Core.Logic.{⊎_elim}
use Prim.Native.Nat.{ℕ, zero, suc, ◌+◌, ◌-◌, ◌<◌, ◌≤◌}
use native.Mathlib.Nat.{add-zero, eq-or-lt_of_le}
use native.Mathlib.Omega.{arith}
use Rattle.words.specs.Buffer.{stretch}
use Rattle.error_table.specs.Table.{index_in, key_in, key_length_in, value_in, value_length_in}
use Rattle.error_promises.specs.Round.{Row, row_in, listed, of_error, by_error, SortedComeBack}
use Rattle.error_promises.proofs.Seen.{of_own, of_other, by_passed, by_none}

module _ (area attributes : List ℕ) (all : ℕ) (sorted : (k : ℕ) → k + 1 < all → index_in attributes k ≤ index_in attributes (k + 1)) where
  later : (k d : ℕ) → k + d < all → index_in attributes k ≤ index_in attributes (k + d)
  later k zero h = rw (add-zero k) (omega arith)
  later k (suc d) h =
      let step : index_in attributes (k + d) ≤ index_in attributes (k + d + 1) = sorted (k + d) (omega arith) in
      let before : index_in attributes k ≤ index_in attributes (k + d) = later k d (omega arith) in
      let e : k + suc d ≡ k + d + 1 = omega arith in
      rw e (omega arith)

  abbrev rows : ℕ → ℕ → List Row
  rows m k = listed (row_in area attributes) m k

  none_of : (i m k : ℕ) → ((j : ℕ) → k ≤ j → j < k + m → i < index_in attributes j) → of_error i (rows m k) ≡ []
  unfolding listed of_error
  none_of i zero k high = refl
  none_of i (suc m) k high =
      of_other (index_in attributes k) (key_length_in attributes k) (stretch area (key_in attributes k) (key_length_in attributes k)) (value_length_in attributes k) (stretch area (value_in attributes k) (value_length_in attributes k)) (rows m (k + 1)) i (λ e. omega (arith, high k (omega arith) (omega arith)))
      ∙ none_of i m (k + 1) (λ j low below. high j (omega arith) (omega arith))

  stays : (n m i k : ℕ) → k + m ≤ all → ((j : ℕ) → k ≤ j → j < k + m → (i ≤ index_in attributes j) × (index_in attributes j < i + n)) → by_error n i (rows m k) ≡ rows m k
  unfolding listed by_error
  stays zero zero i k within good = refl
  stays zero (suc m) i k within good = absurd (omega (arith, (good k (omega arith) (omega arith)).0, (good k (omega arith) (omega arith)).1))
  stays (suc n) zero i k within good = by_none (suc n) i
  stays (suc n) (suc m) i k within good =
      let key : List ℕ = stretch area (key_in attributes k) (key_length_in attributes k) in
      let value : List ℕ = stretch area (value_in attributes k) (value_length_in attributes k) in
      let low : i ≤ index_in attributes k = (good k (omega arith) (omega arith)).0 in
      ⊎_elim
      (λ (same : i ≡ index_in attributes k).
      let mine : of_error i (rows (suc m) k) ≡ row_in area attributes k ∷ of_error i (rows m (k + 1)) = of_own (index_in attributes k) (key_length_in attributes k) key (value_length_in attributes k) value (rows m (k + 1)) i (sym same) in
      let passed : by_error n (i + 1) (rows (suc m) k) ≡ by_error n (i + 1) (rows m (k + 1)) = by_passed (index_in attributes k) (key_length_in attributes k) key (value_length_in attributes k) value (rows m (k + 1)) n (i + 1) (omega arith) in
      let rest : by_error (suc n) i (rows m (k + 1)) ≡ rows m (k + 1) = stays (suc n) m i (k + 1) (omega arith) (λ j h below. good j (omega arith) (omega arith)) in
      (λ x. mine x ++ passed x) ∙ ap (λ (l : List Row). row_in area attributes k ∷ l) rest)
      (λ (less : i < index_in attributes k).
      let high : (j : ℕ) → k ≤ j → j < k + suc m → i < index_in attributes j = λ j h below. (
      let e : k + (j - k) ≡ j = omega arith in
      let more : index_in attributes k ≤ index_in attributes j = rw e at (later k (j - k) (omega arith)) in
      omega arith
      ) in
      let nothing : of_error i (rows (suc m) k) ≡ [] = none_of i (suc m) k high in
      let rest : by_error n (i + 1) (rows (suc m) k) ≡ rows (suc m) k = stays n (suc m) (i + 1) k within (λ j h below. (omega (arith, high j h below), omega (arith, (good j h below).1))) in
      (λ x. nothing x ++ rest x))
      (eq-or-lt_of_le low)

pub sorted_come_back : SortedComeBack
sorted_come_back area attributes n m below sorted = stays area attributes m sorted n m 0 0 (omega arith) (λ j low high. (omega arith, omega (arith, below j (omega arith))))
