-- Laws of the rows that an error has. Assumes nothing.
use mathlib.Core.Path.{◌≡◌, refl, sym, ◌∙◌, ap}
use mathlib.Core.Bool.{Bool, true, false}
use mathlib.Core.Logic.{⊎_elim}
use mathlib.Core.List.{List, []}
use Prim.Native.Nat.{ℕ, zero, suc, ◌+◌, ◌-◌, ◌<◌, ◌≤◌}
use native.Mathlib.Nat.{zero-add, add-zero, sub-zero, eq-or-lt_of_le}
use native.Mathlib.Omega.{arith}
use borrow.Author.Tests.{ne_eqb}
use Rattle.words.proofs.DecideLaws.{le_or_gt}
use Rattle.error_table.specs.Table.{attributes_in, index_in}
use Rattle.error_write.specs.Written.{rows_of}
use Rattle.error_write.specs.Stages.{Covers, Sorted, TellsSorted, Pending, Runs}

-- Sorted so far: the rows before k
abbrev pub SortedTo : List ℕ → ℕ → Type 0
SortedTo attributes k = (j : ℕ) → j + 1 < k → index_in attributes j ≤ index_in attributes (j + 1)

pub sorted_begin : (attributes : List ℕ) → SortedTo attributes 1
sorted_begin attributes j h = absurd (omega arith)

pub sorted_on : (attributes : List ℕ) (k : ℕ) → 1 ≤ k → SortedTo attributes k → index_in attributes (k - 1) ≤ index_in attributes k → SortedTo attributes (k + 1)
sorted_on attributes k some so_far h j below =
    ⊎_elim (λ (same : j + 1 ≡ k). let one : j ≡ k - 1 = omega arith in rw (same, one) h) (λ (less : j + 1 < k). so_far j less) (eq-or-lt_of_le (omega arith))

pub sorted_all : (attributes : List ℕ) (k : ℕ) → SortedTo attributes k → attributes_in attributes ≤ k → Sorted attributes
sorted_all attributes k so_far h j below = so_far j (omega arith)

sorted_by : (attributes : List ℕ) → Sorted attributes → (j n : ℕ) → j + n < attributes_in attributes → index_in attributes j ≤ index_in attributes (j + n)
sorted_by attributes sorted j zero h = rw (add-zero j) (omega arith)
sorted_by attributes sorted j (suc n) h =
    let step : index_in attributes (j + n) ≤ index_in attributes (j + n + 1) = sorted (j + n) (omega arith) in
    let before : index_in attributes j ≤ index_in attributes (j + n) = sorted_by attributes sorted j n (omega arith) in
    let e : j + suc n ≡ j + n + 1 = omega arith in
    rw e (omega arith)

sorted_le : (attributes : List ℕ) → Sorted attributes → (j k : ℕ) → j ≤ k → k < attributes_in attributes → index_in attributes j ≤ index_in attributes k
sorted_le attributes sorted j k h below =
    let e : j + (k - j) ≡ k = omega arith in
    rw e at (sorted_by attributes sorted j (k - j) (omega arith))

-- rows of other errors in front and behind do not count
module _ (attributes : List ℕ) (i : ℕ) where
  skip_front : (m n k : ℕ) → ((j : ℕ) → k ≤ j → j < k + m → index_in attributes j ≡ i → ⊥) → rows_of attributes i (m + n) k ≡ rows_of attributes i n (k + m)
  unfolding rows_of
  skip_front zero n k other = rw (zero-add n, add-zero k)
  skip_front (suc m) n k other =
      let one : suc m + n ≡ suc (m + n) = omega arith in
      let next : k + 1 + m ≡ k + suc m = omega arith in
      rw (one, ne_eqb (index_in attributes k) i (other k (omega arith) (omega arith)), ← next) (skip_front m n (k + 1) (λ j low high. other j (omega arith) (omega arith)))

  none_behind : (n k : ℕ) → ((j : ℕ) → k ≤ j → j < k + n → index_in attributes j ≡ i → ⊥) → rows_of attributes i n k ≡ []
  unfolding rows_of
  none_behind zero k other = refl
  none_behind (suc n) k other =
      rw (ne_eqb (index_in attributes k) i (other k (omega arith) (omega arith))) (none_behind n (k + 1) (λ j low high. other j (omega arith) (omega arith)))

  skip_back : (m n k : ℕ) → ((j : ℕ) → k + m ≤ j → j < k + (m + n) → index_in attributes j ≡ i → ⊥) → rows_of attributes i (m + n) k ≡ rows_of attributes i m k
  unfolding rows_of
  skip_back zero n k other = ap (λ (l : ℕ). rows_of attributes i l k) (zero-add n) ∙ none_behind n k (λ j low high. other j (omega arith) (omega arith))
  skip_back (suc m) n k other =
      let one : suc m + n ≡ suc (m + n) = omega arith in
      rw (one, skip_back m n (k + 1) (λ j low high. other j (omega arith) (omega arith)))

  pub covered : (from till : ℕ) → from ≤ till → till ≤ attributes_in attributes
      → ((j : ℕ) → j < from → index_in attributes j ≡ i → ⊥) → ((j : ℕ) → till ≤ j → j < attributes_in attributes → index_in attributes j ≡ i → ⊥) → Covers attributes i from till
  covered from till ordered within front behind =
      let rows : ℕ = attributes_in attributes in
      let parts : attributes_in attributes ≡ from + (till - from + (rows - till)) = omega arith in
      record {
        ordered = ordered;
        within = within;
        all =
            sym (ap (λ (n : ℕ). rows_of attributes i n 0) parts ∙ skip_front from (till - from + (rows - till)) 0 (λ j low high. front j (omega arith))
            ∙ ap (rows_of attributes i (till - from + (rows - till))) (zero-add from)
            ∙ skip_back (till - from) (rows - till) from (λ j low high. behind j (omega arith) (omega arith)));
      }

  -- all rows
  pub all_covered : (till : ℕ) → till ≡ attributes_in attributes → Covers attributes i 0 till
  all_covered till e = record { ordered = omega arith; within = omega arith; all = ap (λ (n : ℕ). rows_of attributes i n 0) (sub-zero till ∙ e) }

-- the search backwards: the rows from `from` to till have an index of i at least
abbrev pub AtLeast : List ℕ → ℕ → ℕ → ℕ → Type 0
AtLeast attributes i from till = (from ≤ till) × ((k : ℕ) → from ≤ k → k < till → i ≤ index_in attributes k)

pub least_begin : (attributes : List ℕ) (i till : ℕ) → AtLeast attributes i till till
least_begin attributes i till = (omega arith, (λ k low high. absurd (omega arith)))

pub least_on : (attributes : List ℕ) (i from till : ℕ) → 0 < from → AtLeast attributes i from till → i ≤ index_in attributes (from - 1) → AtLeast attributes i (from - 1) till
least_on attributes i from till some so_far h =
    (omega (arith, so_far.0), λ k low high. ⊎_elim (λ (same : from - 1 ≡ k). rw (← same) h) (λ (more : from - 1 < k). so_far.1 k (omega arith) high) (eq-or-lt_of_le low))

module _ (attributes : List ℕ) (sorted : Bool) (is : sorted ≡ true) (i from till : ℕ) (before : Pending attributes sorted (i + 1) till)
    (least : AtLeast attributes i from till) where
  pending : Pending attributes true (i + 1) till
  pending = rw is at before

  behind_larger : (j : ℕ) → till ≤ j → j < attributes_in attributes → index_in attributes j ≡ i → ⊥
  behind_larger j low high e = let larger : i + 1 ≤ index_in attributes j = pending.2 j low high in omega arith

  at_least : (k : ℕ) → from ≤ k → k < attributes_in attributes → i ≤ index_in attributes k
  at_least k low high =
      ⊎_elim (λ (behind : till ≤ k). let larger : i + 1 ≤ index_in attributes k = pending.2 k behind high in omega arith) (λ (inside : k < till). least.1 k low inside) (le_or_gt till k)

  pub run_found : 0 < from → index_in attributes (from - 1) < i → Runs attributes sorted i from till
  run_found some h =
      rw is (
        covered attributes i from till least.0 pending.1
            (λ j below e. let le : index_in attributes j ≤ index_in attributes (from - 1) = sorted_le attributes pending.0 j (from - 1) (omega arith) (omega (arith, least.0, pending.1)) in omega arith) behind_larger,
        (pending.0, omega (arith, least.0, pending.1), at_least),
      )

  pub run_all : from ≤ 0 → Runs attributes sorted i 0 till
  run_all h =
      rw is (
        covered attributes i 0 till (omega arith) pending.1 (λ j below e. omega arith) behind_larger,
        (pending.0, omega arith, (λ k low high. at_least k (omega arith) high)),
      )

pub runs_unsorted : (attributes : List ℕ) (sorted : Bool) → sorted ≡ false → (i till : ℕ) → Pending attributes sorted (i + 1) till → Runs attributes sorted i 0 till
runs_unsorted attributes sorted is i till before =
    let all : Pending attributes false (i + 1) till = rw is at before in
    rw is (all_covered attributes i till all, all)

-- at first, all rows are pending
pub pending_within : (attributes : List ℕ) (sorted : Bool) (i till : ℕ) → Pending attributes sorted i till → till ≤ attributes_in attributes
pending_within attributes true i till p = p.1
pending_within attributes false i till p = omega arith

pub pending_begin : (attributes : List ℕ) (sorted : Bool) (i till : ℕ) → TellsSorted attributes sorted → till ≡ attributes_in attributes → Pending attributes sorted i till
pending_begin attributes true i till sorted e = (sorted, omega arith, (λ k low high. absurd (omega arith)))
pending_begin attributes false i till sorted e = e
