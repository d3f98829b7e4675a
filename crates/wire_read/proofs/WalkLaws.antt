-- Laws of the first walk. What is still to come of a walk is all that its contract speaks of. Assumes nothing.
use mathlib.Core.Path.{◌≡◌, refl, sym, ◌∙◌, ap}
use mathlib.Core.List.{List}
use Prim.Native.Nat.{ℕ, zero, suc, ◌+◌, ◌-◌, ◌*◌, ◌<◌, ◌≤◌}
use native.Mathlib.Nat.{sub-zero, zero-add}
use native.Mathlib.Omega.{arith}
use lib.ListN.{length}
use borrow.Author.Tests.{lt-ltb, le-ltb, ne_eqb}
use Rattle.words.specs.Answer.{Answer}
use Rattle.words.specs.Decide.{decide}
use Rattle.wire.specs.Layout.{null_mark, max_rows, max_values, values_in, count_at, next_value, next_values, next_row, next_rows, value_count}
use Rattle.wire_value.specs.ValueOrder.{value_order}
use Rattle.wire_value.specs.Statement.{ChecksValue, Lies}
use Rattle.wire.specs.declared.error.WireError.{WireError}
use Rattle.wire.specs.declared.error.WireError.TheVariants.{TooManyRows, TooManyValues, TrailingBytes}
use Rattle.wire_value.specs.declared.value.Header.{Header}
use Rattle.wire_value.specs.declared.value.Checked.{Checked}
use Rattle.std.specs.declared.result.Result.{Result}
use Rattle.std.specs.declared.result.Result.TheVariants.{Ok, Err}
use Rattle.wire.specs.Need.{Needs}
use Rattle.wire.proofs.NeedLaws.{short_stops}
use Rattle.wire.proofs.LayoutLaws.{next_values_more, next_rows_more, value_count_more, next_row_far}
use Rattle.wire_read.specs.Stages.{read_values, count_order, read_row, read_rows, head_order, read_rowset}
use Rattle.wire_read.specs.Stages.{WalksValues, WalksRow, WalksRows, WalksRowset}
use Rattle.wire_read.specs.declared.walk.Walked.{Walked}

-- Values: `left` of n are still to be walked, from `at` on

abbrev pub ValuesLeft : List ℕ → ℕ → ℕ → ℕ → ℕ → Type 0
ValuesLeft s n start left at =
    (at ≤ length s) × (next_values s left at ≡ next_values s n start) × ((rest : Answer) → read_values s left at rest ≡ read_values s n start rest)

read_values_more : (s : List ℕ) (n at : ℕ) (rest : Answer) → 0 < n → read_values s n at rest ≡ decide (value_order s at) (read_values s (n - 1) (next_value s at) rest)
unfolding read_values
read_values_more s zero at rest h = absurd (omega arith)
read_values_more s (suc m) at rest h = let e : suc m - 1 ≡ m = omega arith in rw e

module _ (s : List ℕ) (n start left at : ℕ) (inv : ValuesLeft s n start left at) where
  module _ (more : 0 < left) (r : Result Checked WireError) (checks : ChecksValue s at r) where
    pub values_stop : (refusal : WireError) → r ≡ Err refusal → WalksValues s n start (Err refusal)
    values_stop refusal e rest =
        let failed : ChecksValue s at (Err refusal) = rw e at checks in
        sym (inv.2 rest) ∙ read_values_more s left at rest more ∙ failed (read_values s (left - 1) (next_value s at) rest)

    pub values_go : (header : Header) (next : ℕ) → Lies s r → r ≡ Ok record { header = header; next = next } → ValuesLeft s n start (left - 1) next
    values_go header next lies e =
        let passed : ChecksValue s at (Ok record { header = header; next = next }) = rw e at checks in
        let within : next ≤ length s = rw e at lies in (
          within,
          ap (next_values s (left - 1)) passed.1 ∙ sym (next_values_more s left at more) ∙ inv.1,
          (λ rest.
              ap (λ (k : ℕ). read_values s (left - 1) k rest) passed.1
              ∙ sym (passed.2 (read_values s (left - 1) (next_value s at) rest))
              ∙ sym (read_values_more s left at rest more)
              ∙ inv.2 rest),
        )

  pub values_end : left ≤ 0 → WalksValues s n start (Ok record { next = at; values = n })
  unfolding read_values next_values
  values_end h =
      let none : left ≡ 0 = omega arith in
      let next : at ≡ next_values s n start = rw none at inv.1 in
      let all : (rest : Answer) → rest ≡ read_values s n start rest = rw none at inv.2 in
      (next, refl, inv.0, (λ rest. sym (all rest)))

-- A row: its count, then its values

module _ (s : List ℕ) (i at : ℕ) where
  pub row_short : (r : Result (Unit {0}) WireError) → Needs s at 8 r → (e : WireError) → r ≡ Err e → WalksRow s i at (Err e)
  unfolding read_row count_order
  row_short r needs e is rest = short_stops s at 8 r needs e is _

  module _ (room : 8 ≤ length s - at) (count : ℕ) (is : count ≡ count_at s at) where
    pub row_null : count ≡ null_mark → WalksRow s i at (Ok record { next = at + 8; values = 0 })
    unfolding read_row count_order next_row next_values read_values
    row_null h =
        let mark : count_at s at ≡ null_mark = sym is ∙ h in
        (rw mark, rw mark, omega arith, (λ rest. rw (le-ltb (length s - at) 8 room, mark)))

    module _ (some : count ≡ null_mark → ⊥) where
      some_at : count_at s at ≡ null_mark → ⊥
      some_at e = some (is ∙ e)

      pub row_many : max_values < count → WalksRow s i at (Err (TooManyValues i count))
      unfolding read_row count_order
      row_many h rest =
          rw (le-ltb (length s - at) 8 room, ne_eqb (count_at s at) null_mark some_at, lt-ltb max_values (count_at s at) (rw is at h), is)

      pub row_values : count ≤ max_values → (r : Result Walked WireError) → WalksValues s count (at + 8) r → WalksRow s i at r
      unfolding read_row count_order next_row
      row_values h (Ok walked) w =
          rw (← is, ne_eqb count null_mark some)
          (w.0, w.1, w.2, (λ rest. rw (le-ltb (length s - at) 8 room, le-ltb max_values count h) (w.3 rest)))
      row_values h (Err refusal) w =
          (λ rest. rw (le-ltb (length s - at) 8 room, ← is, ne_eqb count null_mark some, le-ltb max_values count h) (w rest))

-- Rows: from the row number `row` on

abbrev pub RowsLeft : List ℕ → ℕ → ℕ → ℕ → ℕ → Type 0
RowsLeft s count row at values =
    (row ≤ count) × (at ≤ length s) × (8 * values ≤ at) × (next_rows s (count - row) at ≡ next_rows s count 8)
    × (values + value_count s (count - row) at ≡ value_count s count 8) × ((rest : Answer) → read_rows s (count - row) row at rest ≡ read_rows s count 0 8 rest)

read_rows_more : (s : List ℕ) (count row : ℕ) → row < count → (i at : ℕ) (rest : Answer)
    → read_rows s (count - row) i at rest ≡ read_row s i at (read_rows s (count - (row + 1)) (i + 1) (next_row s at) rest)
unfolding read_rows
read_rows_more s count row h i at rest = let e : count - row ≡ suc (count - (row + 1)) = omega arith in rw e

pub rows_begin : (s : List ℕ) (count : ℕ) → 8 ≤ length s → RowsLeft s count 0 8 0
rows_begin s count h = rw (sub-zero count, zero-add (value_count s count 8)) (omega arith, h, omega arith, refl, refl, (λ rest. refl))

module _ (s : List ℕ) (count row at values : ℕ) (inv : RowsLeft s count row at values) where
  module _ (more : row < count) (r : Result Walked WireError) (walks : WalksRow s row at r) where
    pub rows_stop : (refusal : WireError) → r ≡ Err refusal → WalksRows s count 0 8 (Err refusal)
    rows_stop refusal e rest =
        let stopped : WalksRow s row at (Err refusal) = rw e at walks in
        sym (inv.5 rest) ∙ read_rows_more s count row more row at rest ∙ stopped (read_rows s (count - (row + 1)) (row + 1) (next_row s at) rest)

    module _ (next n : ℕ) (e : r ≡ Ok record { next = next; values = n }) where
      pub row_within : (next ≤ length s) × (at + 8 + 8 * n ≤ next)
      row_within =
          let passed : WalksRow s row at (Ok record { next = next; values = n }) = rw e at walks in
          (passed.2, rw (passed.0, passed.1) (next_row_far s at))

      pub rows_go : RowsLeft s count (row + 1) next (values + n)
      rows_go =
          let passed : WalksRow s row at (Ok record { next = next; values = n }) = rw e at walks in
          let far : at + 8 + 8 * n ≤ next = row_within.1 in
          let sum : value_count s (count - row) at ≡ values_in (count_at s at) + value_count s (count - (row + 1)) (next_row s at) = value_count_more s count row more at in
          let here : value_count s (count - (row + 1)) next ≡ value_count s (count - (row + 1)) (next_row s at) = ap (value_count s (count - (row + 1))) passed.0 in
          let n-is : n ≡ values_in (count_at s at) = passed.1 in (
            omega arith,
            passed.2,
            omega arith,
            ap (next_rows s (count - (row + 1))) passed.0 ∙ sym (next_rows_more s count row more at) ∙ inv.3,
            omega (arith, inv.4),
            (λ rest.
                ap (λ (k : ℕ). read_rows s (count - (row + 1)) (row + 1) k rest) passed.0
                ∙ sym (passed.3 (read_rows s (count - (row + 1)) (row + 1) (next_row s at) rest))
                ∙ sym (read_rows_more s count row more row at rest)
                ∙ inv.5 rest),
          )

  pub rows_end : count ≤ row → WalksRows s count 0 8 (Ok record { next = at; values = values })
  unfolding read_rows next_rows value_count
  rows_end h =
      let none : count - row ≡ 0 = omega arith in
      let next : at ≡ next_rows s count 8 = rw none at inv.3 in
      let sum : values + 0 ≡ value_count s count 8 = rw none at inv.4 in
      let all : (rest : Answer) → rest ≡ read_rows s count 0 8 rest = rw none at inv.5 in
      (next, omega arith, inv.1, (λ rest. sym (all rest)))

-- The rowset

module _ (s : List ℕ) where
  pub head_short : (r : Result (Unit {0}) WireError) → Needs s 0 8 r → (e : WireError) → r ≡ Err e → WalksRowset s (Err e)
  unfolding read_rowset head_order
  head_short r needs e is rest = short_stops s 0 8 r needs e is _

  module _ (room : 8 ≤ length s) (count : ℕ) (is : count ≡ count_at s 0) where
    pub head_many : max_rows < count → WalksRowset s (Err (TooManyRows count))
    unfolding read_rowset head_order
    head_many h rest = rw (sub-zero (length s), le-ltb (length s) 8 room, ← is, lt-ltb max_rows count h)

    module _ (few : count ≤ max_rows) (r : Result Walked WireError) (walks : WalksRows s count 0 8 r) where
      pub rowset_stop : (refusal : WireError) → r ≡ Err refusal → WalksRowset s (Err refusal)
      unfolding read_rowset head_order
      rowset_stop refusal e rest =
          let stopped : WalksRows s count 0 8 (Err refusal) = rw e at walks in
          rw (sub-zero (length s), le-ltb (length s) 8 room, ← is, le-ltb max_rows count few) (stopped _)

      module _ (end values : ℕ) (e : r ≡ Ok record { next = end; values = values }) where
        pub rowset_trailing : end < length s → WalksRowset s (Err (TrailingBytes (length s - end)))
        unfolding read_rowset head_order
        rowset_trailing h rest =
            let passed : WalksRows s count 0 8 (Ok record { next = end; values = values }) = rw e at walks in
            rw (sub-zero (length s), le-ltb (length s) 8 room, ← is, le-ltb max_rows count few)
            (passed.3 _ ∙ rw (← passed.0, lt-ltb end (length s) h))

        pub rowset_end : length s ≤ end → WalksRowset s (Ok record { next = end; values = values })
        unfolding read_rowset head_order
        rowset_end h =
            let passed : WalksRows s count 0 8 (Ok record { next = end; values = values }) = rw e at walks in
            rw (← is) (
              passed.0,
              passed.1,
              passed.2,
              (λ rest. rw (sub-zero (length s), le-ltb (length s) 8 room, le-ltb max_rows count few) (passed.3 _ ∙ rw (← passed.0, le-ltb end (length s) h))),
            )
