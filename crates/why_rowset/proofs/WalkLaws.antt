-- Laws of the walk. What is still to come of it is all that its contract speaks of. Assumes nothing.
use mathlib.Core.Path.{◌≡◌, refl, sym, ◌∙◌, ap}
use mathlib.Core.List.{List, ◌++◌, append_assoc}
use Prim.Native.Nat.{ℕ, zero, suc, ◌+◌, ◌-◌, ◌<◌, ◌≤◌}
use native.Mathlib.Nat.{sub-zero}
use native.Mathlib.Omega.{arith}
use lib.ListN.{length}
use borrow.Author.Tests.{lt-ltb, le-ltb, ne_eqb}
use Rattle.words.specs.Decide.{decide}
use Rattle.words.specs.Note.{number}
use Rattle.wire.specs.Layout.{null_mark, max_rows, max_values, values_in, count_at, next_value, next_values, next_row, next_rows}
use Rattle.wire_value.specs.ValueOrder.{value_lines}
use Rattle.wire_read.specs.Reading.{values_lines, count_lines, rows_lines, head_lines, end_lines, end_of, input_lines}
use Rattle.words.proofs.DecideLaws.{decide_append}
use Rattle.finding.specs.Saying.{refusing, saying, untold}
use Rattle.finding.specs.Meaning.{meaning}
use Rattle.finding.specs.declared.Finding.{Finding}
use Rattle.finding.specs.declared.Finding.TheVariants.{Fine}
use Rattle.why_rowset.specs.Plain.{plain_value_lines, plain_values_lines, plain_rows_lines, plain_lines}
use Rattle.why_rowset.specs.Checks.{rowset_checks, ExplainsRowset}
use Rattle.why_rowset.specs.Stages.{Keeps, Quiet, Tell, Checks, Goes, WalksValue, WalksValues, WalksRow, WalksRowsFrom, WalksRows, WalksRowset}
use Rattle.why_rowset.specs.declared.walk.Walked.{Walked}
use Rattle.why_rowset.proofs.GoesLaws.{firstly_fine, quiet_then, tell_then, tell_first, goes_stop, goes_then}
use Rattle.wire_value.specs.ValueOf.{header_at}
use Rattle.wire_value.specs.declared.value.Header.{Header}
use Rattle.wire_value.specs.declared.value.Checked.{Checked}
use Rattle.std.specs.declared.result.Result.{Result}
use Rattle.std.specs.declared.result.Result.TheVariants.{Ok, Err}

-- A value

module _ (s : List ℕ) (at : ℕ) (before : Finding) (r : Result Checked Finding) (checks : Checks s at r) where
  pub value_stop : (finding : Finding) → r ≡ Err finding → WalksValue s at before (Err finding)
  value_stop finding e = rw e at checks

  module _ (header : Header) (next : ℕ) (e : r ≡ Ok record { header = header; next = next }) where
    passed : Checks s at (Ok record { header = header; next = next })
    passed = rw e at checks

    pub value_lies : (header ≡ header_at s at) × (next_value s at ≤ length s)
    value_lies = let within : next ≤ length s = passed.2 in (passed.0, rw (← passed.1) within)

    pub value_pass : (after : Finding) → Keeps (plain_value_lines s at) before after → WalksValue s at before (Ok record { next = next; plain = after })
    value_pass after keeps = (passed.1, passed.2, passed.3, keeps)

-- Values: `left` of n are still to be walked, from `at` on

-- whatever walk of these is a walk of all of them
abbrev pub ValuesLeft : List ℕ → ℕ → ℕ → Finding → ℕ → ℕ → Finding → Type 0
ValuesLeft s n start before left at plain = (at ≤ length s) × ((r : Result Walked Finding) → WalksValues s left at plain r → WalksValues s n start before r)

more_values : (s : List ℕ) (n at : ℕ) (before : Finding) (r : Result Walked Finding) → 0 < n
    → Goes s (value_lines s at ++ values_lines s (n - 1) (next_value s at)) (plain_value_lines s at ++ plain_values_lines s (n - 1) (next_value s at)) (next_values s (n - 1) (next_value s at)) before r
    → WalksValues s n at before r
unfolding values_lines plain_values_lines next_values
more_values s zero at before r h goes = absurd (omega arith)
more_values s (suc m) at before r h goes = let e : suc m - 1 ≡ m = omega arith in rw e at goes

module _ (s : List ℕ) (n start : ℕ) (before : Finding) (left at : ℕ) (plain : Finding) (inv : ValuesLeft s n start before left at plain) where
  module _ (more : 0 < left) (r : Result Walked Finding) (walks : WalksValue s at plain r) where
    pub values_stop : (finding : Finding) → r ≡ Err finding → WalksValues s n start before (Err finding)
    values_stop finding e =
        let stopped : WalksValue s at plain (Err finding) = rw e at walks in
        inv.1 (Err finding) (more_values s left at plain (Err finding) more
        (goes_stop s (value_lines s at) (values_lines s (left - 1) (next_value s at)) (plain_value_lines s at) (plain_values_lines s (left - 1) (next_value s at)) (next_value s at) (next_values s (left - 1) (next_value s at)) plain finding stopped))

    pub values_go : (next : ℕ) (after : Finding) → r ≡ Ok record { next = next; plain = after } → ValuesLeft s n start before (left - 1) next after
    values_go next after e =
        let passed : WalksValue s at plain (Ok record { next = next; plain = after }) = rw e at walks in (
          passed.1,
          (λ other goes.
              let behind : WalksValues s (left - 1) (next_value s at) after other = rw passed.0 at goes in
              inv.1 other (more_values s left at plain other more
              (goes_then s (value_lines s at) (values_lines s (left - 1) (next_value s at)) (plain_value_lines s at) (plain_values_lines s (left - 1) (next_value s at)) (next_value s at) (next_values s (left - 1) (next_value s at)) plain next after other passed behind))),
        )

  pub values_end : left ≤ 0 → WalksValues s n start before (Ok record { next = at; plain = plain })
  unfolding values_lines plain_values_lines next_values
  values_end h =
      let none : left ≡ 0 = omega arith in
      inv.1 (Ok record { next = at; plain = plain }) (rw none (refl, inv.0, (λ rest. refl), (λ rest. refl)))

-- A row: its count, then its values

module _ (s : List ℕ) (i at : ℕ) (before : Finding) where
  pub row_short : (finding : Finding) → length s - at < 8 → meaning finding ≡ refusing 9 "value-count" at (length s - at) (number 8) → WalksRow s i at before (Err finding)
  row_short finding short told rest = rw (lt-ltb (length s - at) 8 short) told

  module _ (room : 8 ≤ length s - at) (count : ℕ) (is : count ≡ count_at s at) where
    pub row_null : count ≡ null_mark → WalksRow s i at before (Ok record { next = at + 8; plain = before })
    unfolding values_lines plain_values_lines next_row next_values
    row_null h =
        let mark : count_at s at ≡ null_mark = sym is ∙ h in
        (rw mark, omega arith, (λ rest. rw (le-ltb (length s - at) 8 room, mark)), (λ rest. rw mark))

    module _ (some : count ≡ null_mark → ⊥) where
      pub row_many : (finding : Finding) → max_values < count → meaning finding ≡ refusing 11 "value-count" at count (number max_values) → WalksRow s i at before (Err finding)
      row_many finding h told rest =
          rw (le-ltb (length s - at) 8 room, ← is, ne_eqb count null_mark some, lt-ltb max_values count h) told

      pub row_values : count ≤ max_values → (r : Result Walked Finding) → WalksValues s count (at + 8) before r → WalksRow s i at before r
      unfolding next_row
      row_values h (Ok walked) w =
          rw (← is, ne_eqb count null_mark some)
          (w.0, w.1, (λ rest. rw (le-ltb (length s - at) 8 room, le-ltb max_values count h) (w.2 rest)), w.3)
      row_values h (Err finding) w =
          (λ rest. rw (le-ltb (length s - at) 8 room, ← is, ne_eqb count null_mark some, le-ltb max_values count h) (w rest))

-- Rows: from the row number `row` on

abbrev pub RowsLeft : List ℕ → ℕ → ℕ → ℕ → Finding → Type 0
RowsLeft s count row at plain = (row ≤ count) × (at ≤ length s) × ((r : Result Walked Finding) → WalksRowsFrom s (count - row) row at plain r → WalksRows s count r)

pub rows_begin : (s : List ℕ) (count : ℕ) → 8 ≤ length s → RowsLeft s count 0 8 Fine
rows_begin s count h = rw (sub-zero count) (omega arith, h, (λ r goes. goes))

more_rows : (s : List ℕ) (count row i at : ℕ) (before : Finding) (r : Result Walked Finding) → row < count
    → Goes s ((count_lines s i at ++ values_lines s (values_in (count_at s at)) (at + 8)) ++ rows_lines s (count - (row + 1)) (i + 1) (next_row s at))
    (plain_values_lines s (values_in (count_at s at)) (at + 8) ++ plain_rows_lines s (count - (row + 1)) (next_row s at))
    (next_rows s (count - (row + 1)) (next_row s at)) before r
    → WalksRowsFrom s (count - row) i at before r
unfolding rows_lines plain_rows_lines next_rows
more_rows s count row i at before r h goes =
    let e : count - row ≡ suc (count - (row + 1)) = omega arith in
    rw e (rw (append_assoc (count_lines s i at) (values_lines s (values_in (count_at s at)) (at + 8)) (rows_lines s (count - (row + 1)) (i + 1) (next_row s at))) at goes)

module _ (s : List ℕ) (count row at : ℕ) (plain : Finding) (inv : RowsLeft s count row at plain) where
  module _ (more : row < count) (r : Result Walked Finding) (walks : WalksRow s row at plain r) where
    pub rows_stop : (finding : Finding) → r ≡ Err finding → WalksRows s count (Err finding)
    rows_stop finding e =
        let stopped : WalksRow s row at plain (Err finding) = rw e at walks in
        inv.2 (Err finding) (more_rows s count row row at plain (Err finding) more
        (goes_stop s (count_lines s row at ++ values_lines s (values_in (count_at s at)) (at + 8)) (rows_lines s (count - (row + 1)) (row + 1) (next_row s at))
        (plain_values_lines s (values_in (count_at s at)) (at + 8)) (plain_rows_lines s (count - (row + 1)) (next_row s at)) (next_row s at) (next_rows s (count - (row + 1)) (next_row s at)) plain finding stopped))

    pub rows_go : (next : ℕ) (after : Finding) → r ≡ Ok record { next = next; plain = after } → RowsLeft s count (row + 1) next after
    rows_go next after e =
        let passed : WalksRow s row at plain (Ok record { next = next; plain = after }) = rw e at walks in (
          omega arith,
          passed.1,
          (λ other goes.
              let behind : WalksRowsFrom s (count - (row + 1)) (row + 1) (next_row s at) after other = rw passed.0 at goes in
              inv.2 other (more_rows s count row row at plain other more
              (goes_then s (count_lines s row at ++ values_lines s (values_in (count_at s at)) (at + 8)) (rows_lines s (count - (row + 1)) (row + 1) (next_row s at))
              (plain_values_lines s (values_in (count_at s at)) (at + 8)) (plain_rows_lines s (count - (row + 1)) (next_row s at)) (next_row s at) (next_rows s (count - (row + 1)) (next_row s at)) plain next after other passed behind))),
        )

  pub rows_end : count ≤ row → WalksRows s count (Ok record { next = at; plain = plain })
  unfolding rows_lines plain_rows_lines next_rows
  rows_end h =
      let none : count - row ≡ 0 = omega arith in
      inv.2 (Ok record { next = at; plain = plain }) (rw none (refl, inv.1, (λ rest. refl), (λ rest. refl)))

-- The rowset

module _ (s : List ℕ) where
  pub head_short : (finding : Finding) → length s < 8 → meaning finding ≡ refusing 9 "row-count" 0 (length s) (number 8) → WalksRowset s (Err finding)
  unfolding input_lines
  head_short finding short told rest = rw (sub-zero (length s), lt-ltb (length s) 8 short) told

  module _ (room : 8 ≤ length s) (count : ℕ) (is : count ≡ count_at s 0) where
    pub head_many : (finding : Finding) → max_rows < count → meaning finding ≡ refusing 10 "row-count" 0 count (number max_rows) → WalksRowset s (Err finding)
    unfolding input_lines
    head_many finding h told rest = rw (sub-zero (length s), le-ltb (length s) 8 room, ← is, lt-ltb max_rows count h) told

    module _ (few : count ≤ max_rows) (r : Result Walked Finding) (walks : WalksRows s count r) where
      quiet_head : Quiet (head_lines s)
      quiet_head rest = rw (sub-zero (length s), le-ltb (length s) 8 room, ← is, le-ltb max_rows count few)

      pub rowset_stop : (finding : Finding) → r ≡ Err finding → WalksRowset s (Err finding)
      unfolding input_lines
      rowset_stop finding e =
          let stopped : WalksRows s count (Err finding) = rw e at walks in
          let here : Tell (rows_lines s (count_at s 0) 0 8) finding = rw is at stopped in
          tell_then (head_lines s) (rows_lines s (count_at s 0) 0 8 ++ end_lines s) finding quiet_head (tell_first (rows_lines s (count_at s 0) 0 8) (end_lines s) finding here)

      module _ (end : ℕ) (plain : Finding) (e : r ≡ Ok record { next = end; plain = plain }) where
        rows_passed : WalksRowsFrom s (count_at s 0) 0 8 Fine (Ok record { next = end; plain = plain })
        rows_passed = let here : WalksRows s count (Ok record { next = end; plain = plain }) = rw e at walks in rw is at here

        pub rowset_trailing : (finding : Finding) → end < length s → meaning finding ≡ refusing 15 "trailing-bytes" end (length s - end) (number 0) → WalksRowset s (Err finding)
        unfolding input_lines
        rowset_trailing finding h told =
            let there : end ≡ end_of s = rows_passed.0 in
            tell_then (head_lines s) (rows_lines s (count_at s 0) 0 8 ++ end_lines s) finding quiet_head
            (tell_then (rows_lines s (count_at s 0) 0 8) (end_lines s) finding rows_passed.2 (λ rest. rw (← there, lt-ltb end (length s) h) told))

        pub rowset_end : length s ≤ end → WalksRowset s (Ok record { next = end; plain = plain })
        unfolding input_lines
        rowset_end h =
            let there : end ≡ end_of s = rows_passed.0 in (
              rows_passed.0,
              rows_passed.1,
              quiet_then (head_lines s) (rows_lines s (count_at s 0) 0 8 ++ end_lines s) quiet_head
                  (quiet_then (rows_lines s (count_at s 0) 0 8) (end_lines s) rows_passed.2 (λ rest. rw (← there, le-ltb end (length s) h))),
              rows_passed.3,
            )

  -- what is told of it
  module _ (r : Result Walked Finding) (walks : WalksRowset s r) where
    pub explain_found : (finding : Finding) → r ≡ Err finding → ExplainsRowset s finding
    unfolding rowset_checks
    explain_found finding e =
        let stopped : Tell (input_lines s) finding = rw e at walks in
        tell_first (input_lines s) (plain_lines s) finding stopped untold

    pub explain_plain : (end : ℕ) (plain : Finding) → r ≡ Ok record { next = end; plain = plain } → ExplainsRowset s plain
    unfolding rowset_checks
    explain_plain end plain e =
        let passed : WalksRowset s (Ok record { next = end; plain = plain }) = rw e at walks in
        sym (firstly_fine (meaning plain))
        ∙ passed.3 untold
        ∙ ap saying (sym (decide_append (input_lines s) (plain_lines s) untold ∙ passed.2 (decide (plain_lines s) untold)))
