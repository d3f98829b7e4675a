-- What the walks over values and rows decide, by their parts. Assumes nothing.
use mathlib.Core.Path.{◌≡◌, refl, sym, ◌∙◌, ap}
use mathlib.Core.Bool.{false, ◌&&◌}
use mathlib.Core.List.{List, [], ◌∷◌}
use Prim.Native.Nat.{ℕ, suc, ◌+◌, ◌*◌, ◌-◌, ◌<◌, ◌≤◌}
use native.Mathlib.Numerals.{add-one}
use native.Mathlib.Omega.{arith}
use lib.Dec.{ltb}
use lib.ListN.{length, get_or, drop, drop_of_length-le}
use lib.Seq.{drop-cons}
use borrow.Author.Tests.{lt-ltb, le-ltb}
use Rattle.words.specs.Answer.{Answer, accepted, refuse}
use Rattle.words.specs.Decide.{◌⇒◌, decide, ◌<?◌}
use Rattle.wire.specs.Layout.{max_size, max_values, max_length, entry_words, scalar, blob, padded, values_in}
use Rattle.wire.specs.Paper.{paper}
use Rattle.wire.proofs.TypeLaws.{blob_low, blob_yes, payload_none, payload_scalar, payload_blob}
use Rattle.wire.specs.declared.error.WireError.{WireError}
use Rattle.wire.specs.declared.error.WireError.TheVariants.{TooManyValues, ValueTooLong, RowsetTooLarge}
use Rattle.wire_check.specs.Writing.{type_in, length_in, total, too_large, capped, size_of, value_size, values_size, row_size, rows_size, rowset_size, value_order, count_order}
use Rattle.wire_check.specs.Stages.{fit_values, fit_row, fit_rows, fitting}
use Rattle.wire_check.specs.Statement.{Measures}
use Rattle.wire_check.specs.Stages.{ChecksTables, Follows, Adds, Fits}
use Rattle.std.specs.declared.result.Result.{Result}
use Rattle.std.specs.declared.result.Result.TheVariants.{Ok, Err}
use Rattle.wire_check.proofs.TableLaws.{total_more}
use Rattle.wire_check.proofs.LinesLaws.{measuring_walks}

-- One more element

pub add_over : (size more : ℕ) → max_size < size + more → Adds size more (Err (RowsetTooLarge (size + more)))
add_over size more h rest = rw (lt-ltb max_size (size + more) h)

pub add_within : (size more : ℕ) → size + more ≤ max_size → Adds size more (Ok (size + more))
add_within size more h = (refl, h, λ rest. rw (le-ltb max_size (size + more) h))

-- A walk that decides as another one does, and ends at the same size
abbrev pub Still : (Answer → Answer) → ℕ → (Answer → Answer) → ℕ → Type 0
Still walk size whole end = ((rest : Answer) → walk rest ≡ whole rest) × (size ≡ end)

pub follows_still : (walk whole : Answer → Answer) (size end : ℕ) (r : Result ℕ WireError) → Still walk size whole end → Follows walk size r → Follows whole end r
follows_still walk whole size end (Ok n) still follows = (follows.0 ∙ still.1, follows.1, λ rest. sym (still.0 rest) ∙ follows.2 rest)
follows_still walk whole size end (Err refusal) still follows = λ rest. sym (still.0 rest) ∙ follows rest

-- checks in front of a walk: they pass and leave it, or they refuse
module _ (check next walk : Answer → Answer) (splits : (rest : Answer) → walk rest ≡ check (next rest)) (mid : ℕ) (r : Result ℕ WireError) (follows : Follows check mid r) where
  pub check_sum : (n : ℕ) → r ≡ Ok n → (n ≡ mid) × (n ≤ max_size)
  check_sum n e = let passed : Follows check mid (Ok n) = rw e at follows in (passed.0, passed.1)

  pub check_passes : (n : ℕ) → r ≡ Ok n → (rest : Answer) → next rest ≡ walk rest
  check_passes n e rest = let passed : Follows check mid (Ok n) = rw e at follows in sym (passed.2 (next rest)) ∙ sym (splits rest)

  pub check_stops : (refusal : WireError) → r ≡ Err refusal → (rest : Answer) → walk rest ≡ paper refusal
  check_stops refusal e rest = let failed : Follows check mid (Err refusal) = rw e at follows in splits rest ∙ failed (next rest)

-- A value

module _ (type n size : ℕ) where
  -- 12 does not hold: 13 decides
  value_adds : (more : ℕ) (r : Result ℕ WireError) → (blob type && ltb max_length n) ≡ false → size_of type n ≡ more → Adds size more r
      → Follows (decide (value_order type n size)) (size + size_of type n) r
  unfolding value_order
  value_adds more r short e adds =
      follows_still (decide (too_large (size + more) ∷ [])) (decide (value_order type n size)) (size + more) (size + size_of type n) r ((λ rest. rw (short, e)), rw e) adds

  pub none_adds : scalar type ≡ false → blob type ≡ false → (r : Result ℕ WireError) → Adds size 8 r → Follows (decide (value_order type n size)) (size + size_of type n) r
  none_adds none isnt r adds = value_adds 8 r (rw isnt) (rw (payload_none type n none isnt)) adds

  pub scalar_adds : 3 ≤ type → type < 7 → (r : Result ℕ WireError) → Adds size 16 r → Follows (decide (value_order type n size)) (size + size_of type n) r
  scalar_adds low high r adds =
      value_adds 16 r (rw (blob_low type (omega arith))) (rw (payload_scalar type n low high)) adds

  module _ (low : 16 ≤ type) (high : type ≤ 18) where
    pub blob_long : max_length < n → (cap : ℕ) → cap ≡ capped n → Follows (decide (value_order type n size)) (size + size_of type n) (Err (ValueTooLong cap))
    unfolding value_order
    blob_long h cap e rest = rw (blob_yes type low (omega arith), lt-ltb max_length n h, e)

    pub blob_adds : n ≤ max_length → (more : ℕ) → more ≡ padded n → (r : Result ℕ WireError) → Adds size (8 + more) r
        → Follows (decide (value_order type n size)) (size + size_of type n) r
    blob_adds h more e r adds =
        value_adds (8 + more) r (rw (blob_yes type low (omega arith), le-ltb max_length n h)) (rw (payload_blob type n low (omega arith), e)) adds

-- Values: `left` of them are to come, from the word k on, at this size

abbrev value_checks : List ℕ → ℕ → ℕ → Answer → Answer
value_checks values k size = decide (value_order (type_in values k) (length_in values k) size)

abbrev pub ValuesLeft : List ℕ → ℕ → ℕ → ℕ → ℕ → ℕ → ℕ → Type 0
ValuesLeft values start count before size k left =
    (k + entry_words * left ≤ length values)
    × (size ≤ max_size)
    × Still (fit_values values left k size) (size + values_size values left k) (fit_values values count start before) (before + values_size values count start)

module _ (values : List ℕ) (start count before size k left : ℕ) (so_far : ValuesLeft values start count before size k left) where
  pub values_end : left ≤ 0 → Follows (fit_values values count start before) (before + values_size values count start) (Ok size)
  unfolding fit_values values_size
  values_end h =
      let e : left ≡ 0 = omega arith in
      let ended : Still (fit_values values 0 k size) (size + 0) (fit_values values count start before) (before + values_size values count start) = rw e at so_far.2 in
      (omega (arith, ended.1), so_far.1, λ rest. sym (ended.0 rest))

  module _ (some : 0 < left) (r : Result ℕ WireError) (follows : Follows (value_checks values k size) (size + value_size values k) r) where
    one_more : left ≡ suc (left - 1)
    one_more = omega arith

    splits : (rest : Answer) → fit_values values left k size rest ≡ value_checks values k size (fit_values values (left - 1) (k + entry_words) (size + value_size values k) rest)
    unfolding fit_values
    splits rest = ap (λ (m : ℕ). fit_values values m k size rest) one_more

    sizes : values_size values left k ≡ value_size values k + values_size values (left - 1) (k + entry_words)
    unfolding values_size
    sizes = ap (λ (m : ℕ). values_size values m k) one_more

    pub values_stop : (refusal : WireError) → r ≡ Err refusal → Follows (fit_values values count start before) (before + values_size values count start) (Err refusal)
    values_stop refusal e rest = sym (so_far.2.0 rest) ∙ check_stops _ _ _ splits _ r follows refusal e rest

    pub values_go : (n : ℕ) → r ≡ Ok n → ValuesLeft values start count before n (k + entry_words) (left - 1)
    values_go n e =
        let sum : (n ≡ size + value_size values k) × (n ≤ max_size) = check_sum _ _ _ splits _ r follows n e in (
          omega arith,
          sum.1,
          ((λ rest. ap (λ (m : ℕ). fit_values values (left - 1) (k + entry_words) m rest) sum.0 ∙ check_passes _ _ _ splits _ r follows n e rest ∙ so_far.2.0 rest), omega (arith, sizes, so_far.2.1)),
        )

-- A row

module _ (values : List ℕ) (count i k before : ℕ) (r : Result ℕ WireError) (adds : Adds before 8 r) where
  behind : Answer → Answer
  behind rest = decide (max_values <? values_in count ⇒ refuse 11 (i ∷ count ∷ []) ∷ []) (fit_values values (values_in count) k (before + 8) rest)

  row_splits : (rest : Answer) → fit_row values count i k before rest ≡ decide (too_large (before + 8) ∷ []) (behind rest)
  unfolding fit_row count_order behind
  row_splits rest = refl

  pub row_large : (refusal : WireError) → r ≡ Err refusal → Follows (fit_row values count i k before) (before + row_size values count k) (Err refusal)
  row_large refusal e rest = check_stops _ _ _ row_splits _ r adds refusal e rest

  module _ (size : ℕ) (e : r ≡ Ok size) (n : ℕ) (is : n ≡ values_in count) where
    pub row_within : (k + entry_words * values_in count ≤ length values) → (k + entry_words * n ≤ length values) × (size ≤ max_size)
    row_within h = (omega arith, (check_sum _ _ _ row_splits _ r adds size e).1)

    pub row_many : max_values < n → Follows (fit_row values count i k before) (before + row_size values count k) (Err (TooManyValues i count))
    unfolding behind
    row_many h rest = sym (check_passes _ _ _ row_splits _ r adds size e rest) ∙ rw (← is, lt-ltb max_values n h)

    pub row_values : n ≤ max_values → (r' : Result ℕ WireError) → Follows (fit_values values n k size) (size + values_size values n k) r'
        → Follows (fit_row values count i k before) (before + row_size values count k) r'
    unfolding behind
    row_values h r' follows =
        let sum : size ≡ before + 8 = (check_sum _ _ _ row_splits _ r adds size e).0 in
        follows_still _ (fit_row values count i k before) _ (before + row_size values count k) r'
        ((λ rest. rw (is, sum) (sym (sym (check_passes _ _ _ row_splits _ r adds size e rest) ∙ rw (le-ltb max_values (values_in count) (omega arith))))), rw (is, sum) (omega arith))
        follows

-- Rows: those from i on are to come, their values from the word k on, at this size

abbrev pub RowsLeft : List ℕ → List ℕ → ℕ → ℕ → ℕ → Type 0
RowsLeft rows values size k i =
    (k + entry_words * total (drop i rows) ≤ length values)
    × (size ≤ max_size)
    × Still (fit_rows (drop i rows) values i k size) (size + rows_size (drop i rows) values k) (fit_rows rows values 0 0 8) (rowset_size rows values)

module _ (rows values : List ℕ) where
  pub rows_begin : length values ≡ entry_words * total rows → RowsLeft rows values 8 0 0
  unfolding rowset_size
  rows_begin h = (omega arith, omega arith, ((λ rest. refl), refl))

  module _ (size k i : ℕ) (so_far : RowsLeft rows values size k i) where
    pub rows_end : length rows ≤ i → Follows (fit_rows rows values 0 0 8) (rowset_size rows values) (Ok size)
    unfolding fit_rows rows_size
    rows_end h =
        let none : drop i rows ≡ [] = drop_of_length-le rows h in
        let ended : Still (fit_rows [] values i k size) (size + rows_size [] values k) (fit_rows rows values 0 0 8) (rowset_size rows values) = rw none at so_far.2 in
        (omega (arith, ended.1), so_far.1, λ rest. sym (ended.0 rest))

    module _ (some : i < length rows) where
      one_row : drop i rows ≡ get_or rows i 0 ∷ drop (i + 1) rows
      one_row = rw (add-one i) (drop-cons rows i 0 some)

      pub row_fits : k + entry_words * values_in (get_or rows i 0) ≤ length values
      row_fits = omega (arith, total_more rows i some, so_far.0)

      module _ (r : Result ℕ WireError) (follows : Follows (fit_row values (get_or rows i 0) i k size) (size + row_size values (get_or rows i 0) k) r) where
        rows_split : (rest : Answer) → fit_rows (drop i rows) values i k size rest
            ≡ fit_row values (get_or rows i 0) i k size (fit_rows (drop (i + 1) rows) values (i + 1) (k + entry_words * values_in (get_or rows i 0)) (size + row_size values (get_or rows i 0) k) rest)
        unfolding fit_rows
        rows_split rest = ap (λ (l : List ℕ). fit_rows l values i k size rest) one_row

        rows_sizes : rows_size (drop i rows) values k ≡ row_size values (get_or rows i 0) k + rows_size (drop (i + 1) rows) values (k + entry_words * values_in (get_or rows i 0))
        unfolding rows_size
        rows_sizes = ap (λ (l : List ℕ). rows_size l values k) one_row

        pub rows_stop : (refusal : WireError) → r ≡ Err refusal → Follows (fit_rows rows values 0 0 8) (rowset_size rows values) (Err refusal)
        rows_stop refusal e rest = sym (so_far.2.0 rest) ∙ check_stops _ _ _ rows_split _ r follows refusal e rest

        pub rows_go : (sum : ℕ) → r ≡ Ok sum → (n : ℕ) → n ≡ values_in (get_or rows i 0) → RowsLeft rows values sum (k + entry_words * n) (i + 1)
        rows_go sum e n is =
            let within : (sum ≡ size + row_size values (get_or rows i 0) k) × (sum ≤ max_size) = check_sum _ _ _ rows_split _ r follows sum e in (
              omega (arith, total_more rows i some, so_far.0),
              within.1,
              ((λ rest. rw (within.0, is) (check_passes _ _ _ rows_split _ r follows sum e rest) ∙ so_far.2.0 rest), rw (within.0, is) (omega (arith, rows_sizes, so_far.2.1))),
            )

-- The whole

module _ (area rows values : List ℕ) where
  -- what the writer goes by says what the size is
  fits_measures : (r : Result ℕ WireError) → Fits area rows values r → Measures area rows values r
  fits_measures (Ok n) fits = ap (λ (m : ℕ). accepted m []) fits.1.0 ∙ sym (measuring_walks area rows values ∙ fits.1.2 _)
  fits_measures (Err refusal) fits = sym (measuring_walks area rows values ∙ fits _)

  module _ (v : Result (Unit {0}) WireError) (checks : ChecksTables area rows values v) where
    pub whole_refused : (refusal : WireError) → v ≡ Err refusal → Measures area rows values (Err refusal) × Fits area rows values (Err refusal)
    unfolding fitting
    whole_refused refusal e =
        let failed : ChecksTables area rows values (Err refusal) = rw e at checks in
        let fits : Fits area rows values (Err refusal) = λ rest. failed _ in
        (fits_measures (Err refusal) fits, fits)

    module _ (e : v ≡ Ok tt) where
      passed : ChecksTables area rows values (Ok tt)
      passed = rw e at checks

      pub whole_sound : length values ≡ entry_words * total rows
      whole_sound = passed.0.whole

      whole_fits : (r : Result ℕ WireError) → Follows (fit_rows rows values 0 0 8) (rowset_size rows values) r → Fits area rows values r
      unfolding fitting
      whole_fits (Ok n) follows = (passed.0, (follows.0, follows.1, λ rest. passed.1 _ ∙ follows.2 rest))
      whole_fits (Err refusal) follows = λ rest. passed.1 _ ∙ follows rest

      pub whole_measured : (r : Result ℕ WireError) → Follows (fit_rows rows values 0 0 8) (rowset_size rows values) r → Measures area rows values r × Fits area rows values r
      whole_measured r follows = let fits : Fits area rows values r = whole_fits r follows in (fits_measures r fits, fits)
