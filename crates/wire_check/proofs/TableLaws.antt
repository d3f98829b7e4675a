-- What the checks of the tables decide: the values of the rows, the words of an entry, the order. Assumes nothing.
use mathlib.Core.Path.{◌≡◌, refl, sym, ◌∙◌, ap}
use mathlib.Core.Bool.{Bool, true, false, not, ◌&&◌, ◌||◌}
use mathlib.Core.List.{List}
use Prim.Native.Nat.{ℕ, ◌+◌, ◌*◌, ◌-◌, ◌/◌, ◌%◌, ◌<◌, ◌≤◌}
use native.Mathlib.Nat.{sub-zero}
use native.Mathlib.Numerals.{add-one}
use native.Mathlib.Omega.{arith}
use lib.Dec.{ltb, eqb}
use lib.ListN.{length, get_or, drop, drop_of_length-le}
use lib.Seq.{drop-cons}
use borrow.Author.Tests.{ltb-true, ltb-false, eqb-true, eqb-false, lt-ltb, le-ltb, eq-eqb, ne_eqb}
use Rattle.words.specs.Decide.{first_from}
use Rattle.words.proofs.DecideLaws.{first_miss, first_hit, first_end, first_none}
use Rattle.wire.specs.Layout.{null_type, boolean, max_rows, entry_words, blob, known, values_in}
use Rattle.wire.proofs.TypeLaws.{known_null, known_scalar, known_blob, blob_yes, blob_low}
use Rattle.wire.specs.declared.error.WireError.TheVariants.{TooManyRows, BadTable}
use Rattle.wire_check.specs.Writing.{entries_in, total, bad, bad_entry, first_bad}
use Rattle.wire_check.specs.Stages.{table_order}
use Rattle.wire_check.specs.Stages.{Good, ChecksTables}
use Rattle.std.specs.declared.result.Result.TheVariants.{Ok, Err}

-- Tests that say the same

pub by_test : {A : Type 0} (t : Bool) → (t ≡ true → A) → (t ≡ false → A) → A
by_test true holds fails = holds refl
by_test false holds fails = fails refl

same_order : (a b c d : ℕ) → (a < b → c < d) → (b ≤ a → d ≤ c) → ltb a b ≡ ltb c d
same_order a b c d holds fails =
    by_test (ltb a b) (λ t. t ∙ sym (lt-ltb c d (holds (ltb-true a b t)))) (λ t. t ∙ sym (le-ltb c d (fails (ltb-false a b t))))

same_equal : (a b c d : ℕ) → (a ≡ b → c ≡ d) → ((a ≡ b → ⊥) → c ≡ d → ⊥) → eqb a b ≡ eqb c d
same_equal a b c d holds fails =
    by_test (eqb a b) (λ t. t ∙ sym (eq-eqb c d (holds (eqb-true a b t)))) (λ t. t ∙ sym (ne_eqb c d (fails (eqb-false a b t))))

or_nothing : (t : Bool) → t ≡ (t || false)
or_nothing true = refl
or_nothing false = refl

-- Rows

-- the values of the rows from i on
pub total_more : (rows : List ℕ) (i : ℕ) → i < length rows → total (drop i rows) ≡ values_in (get_or rows i 0) + total (drop (i + 1) rows)
unfolding total
total_more rows i h = rw (drop-cons rows i 0 h, add-one i)

pub total_none : (rows : List ℕ) (i : ℕ) → length rows ≤ i → total (drop i rows) ≡ 0
unfolding total
total_none rows i h = rw (drop_of_length-le rows h)

-- of the entries, `left` are not counted yet
module _ (rows : List ℕ) (entries left i : ℕ) (so_far : left + total rows ≡ entries + total (drop i rows)) where
  pub sums_less : (count : ℕ) → i < length rows → count ≡ values_in (get_or rows i 0) → left < count → false ≡ eqb (total rows) entries
  sums_less count h e less = sym (ne_eqb (total rows) entries (λ same. omega (arith, total_more rows i h)))

  pub sums_more : (count : ℕ) → i < length rows → count ≡ values_in (get_or rows i 0) → count ≤ left → left - count + total rows ≡ entries + total (drop (i + 1) rows)
  sums_more count h e some = omega (arith, total_more rows i h)

  pub sums_end : length rows ≤ i → eqb left 0 ≡ eqb (total rows) entries
  sums_end h =
      let none : total (drop i rows) ≡ 0 = total_none rows i h in
      same_equal left 0 (total rows) entries (λ e. omega arith) (λ e f. e (omega arith))

-- The words of an entry, by the first that is wrong

module _ (size id type aggregate bits n : ℕ) where
  pub bad_id : 65535 < id → true ≡ bad size id type aggregate bits n
  unfolding bad
  bad_id h = rw (lt-ltb 65535 id h)

  module _ (fits : id ≤ 65535) where
    pub bad_flag : 1 < aggregate → true ≡ bad size id type aggregate bits n
    unfolding bad
    bad_flag h = by_test (known type) (λ is. rw (le-ltb 65535 id fits, is, lt-ltb 1 aggregate h)) (λ isnt. rw (le-ltb 65535 id fits, isnt))

    pub bad_unknown : known type ≡ false → true ≡ bad size id type aggregate bits n
    unfolding bad
    bad_unknown isnt = rw (le-ltb 65535 id fits, isnt)

    module _ (one : aggregate ≤ 1) where
      -- a blob
      module _ (low : 15 < type) (high : type < 19) where
        blob_bad : bad size id type aggregate bits n ≡ ltb size (bits + n)
        unfolding bad
        blob_bad =
            rw (le-ltb 65535 id fits, known_blob type low high, le-ltb 1 aggregate one, ne_eqb type boolean (λ e. omega arith), ne_eqb type null_type (λ e. omega arith), blob_yes type low high)

        pub bad_blob_long : size < n → true ≡ bad size id type aggregate bits n
        bad_blob_long long = sym (blob_bad ∙ lt-ltb size (bits + n) (omega arith))

        pub bad_blob : n ≤ size → ltb (size - n) bits ≡ bad size id type aggregate bits n
        bad_blob room = same_order (size - n) bits size (bits + n) (λ less. omega arith) (λ most. omega arith) ∙ sym blob_bad

      -- a Null
      pub bad_null : type ≡ null_type → (bits ≡ 0 → ⊥) → true ≡ bad size id type aggregate bits n
      unfolding bad
      bad_null e h =
          rw (le-ltb 65535 id fits, known_null type e, le-ltb 1 aggregate one, ne_eqb type boolean (λ f. omega arith), eq-eqb type null_type e, ne_eqb bits 0 h)

      pub null_length_lem : type ≡ null_type → bits ≡ 0 → not (eqb n 0) ≡ bad size id type aggregate bits n
      unfolding bad
      null_length_lem e h =
          rw (le-ltb 65535 id fits, known_null type e, le-ltb 1 aggregate one, ne_eqb type boolean (λ f. omega arith), eq-eqb type null_type e, eq-eqb bits 0 h, blob_low type (omega arith)) (or_nothing _)

      -- a scalar
      module _ (low : 2 < type) (high : type < 7) where
        scalar_bad : bad size id type aggregate bits n ≡ ((eqb type boolean && ltb 1 bits) || not (eqb n 0))
        unfolding bad
        scalar_bad =
            rw (le-ltb 65535 id fits, known_scalar type low high, le-ltb 1 aggregate one, ne_eqb type null_type (λ e. omega arith), blob_low type (omega arith))
            (by_test (eqb type boolean && ltb 1 bits) (λ is. rw is) (λ isnt. rw isnt (sym (or_nothing (not (eqb n 0))))))

        pub scalar_length : (n ≡ 0 → ⊥) → true ≡ bad size id type aggregate bits n
        scalar_length h = rw scalar_bad (rw (ne_eqb n 0 h) (by_test (eqb type boolean && ltb 1 bits) (λ is. rw is) (λ isnt. rw isnt)))

        module _ (none : n ≡ 0) where
          pub word_good : (type ≡ boolean → ⊥) → false ≡ bad size id type aggregate bits n
          word_good h = rw scalar_bad (rw (eq-eqb n 0 none, ne_eqb type boolean h))

          pub boolean_bits : type ≡ boolean → ltb 1 bits ≡ bad size id type aggregate bits n
          boolean_bits e = rw scalar_bad (rw (eq-eqb n 0 none, eq-eqb type boolean e) (or_nothing (ltb 1 bits)))

-- Where none is wrong, each of the tests fails

or_left : (a b : Bool) → (a || b) ≡ false → a ≡ false
or_left true b h = h
or_left false b h = refl

or_right : (a b : Bool) → (a || b) ≡ false → b ≡ false
or_right true true h = h
or_right true false h = refl
or_right false b h = h

seven : (a b c d e f g : Bool) → (a || b || c || d || e || f || g) ≡ false
    → (a ≡ false) × (b ≡ false) × (c ≡ false) × (d ≡ false) × (e ≡ false) × (f ≡ false) × (g ≡ false)
seven a b c d e f g h =
    let h6 : (a || b || c || d || e || f) ≡ false = or_left _ g h in
    let h5 : (a || b || c || d || e) ≡ false = or_left _ f h6 in
    let h4 : (a || b || c || d) ≡ false = or_left _ e h5 in
    let h3 : (a || b || c) ≡ false = or_left _ d h4 in
    let h2 : (a || b) ≡ false = or_left _ c h3 in
    (or_left a b h2, or_right a b h2, or_right (a || b) c h3, or_right (a || b || c) d h4, or_right (a || b || c || d) e h5, or_right (a || b || c || d || e) f h6, or_right (a || b || c || d || e || f) g h)

pub none_wrong : (size id type aggregate bits n : ℕ) → bad size id type aggregate bits n ≡ false
    → (ltb 65535 id ≡ false) × (not (known type) ≡ false) × (ltb 1 aggregate ≡ false) × ((eqb type 6 && ltb 1 bits) ≡ false)
    × ((eqb type 2 && not (eqb bits 0)) ≡ false) × ((not (blob type) && not (eqb n 0)) ≡ false) × ((blob type && ltb size (bits + n)) ≡ false)
unfolding bad
none_wrong size id type aggregate bits n good =
    seven (ltb 65535 id) (not (known type)) (ltb 1 aggregate) (eqb type 6 && ltb 1 bits) (eqb type 2 && not (eqb bits 0))
    (not (blob type) && not (eqb n 0)) (blob type && ltb size (bits + n)) good

-- The first bad entry: the search from i on finds what the whole finds

abbrev pub Seeks : ℕ → List ℕ → ℕ → Type 0
Seeks size values i = first_from (λ (j : ℕ). bad_entry size values (entry_words * j)) i (entries_in values - i) ≡ first_bad size values

module _ (size : ℕ) (values : List ℕ) where
  pub seek_begin : Seeks size values 0
  unfolding first_bad
  seek_begin = ap (λ (n : ℕ). first_from (λ (j : ℕ). bad_entry size values (entry_words * j)) 0 n) (sub-zero (entries_in values))

  module _ (i : ℕ) (seeks : Seeks size values i) (r : Bool) (is : r ≡ bad_entry size values (entry_words * i)) where
    pub seek_hit : i < entries_in values → r ≡ true → i ≡ first_bad size values
    seek_hit h hit = sym (first_hit _ i (entries_in values) h (sym is ∙ hit)) ∙ seeks

    pub seek_miss : i < entries_in values → r ≡ false → Seeks size values (i + 1)
    seek_miss h miss = sym (first_miss _ i (entries_in values) h (sym is ∙ miss)) ∙ seeks

  pub seek_end : (i : ℕ) → Seeks size values i → i ≤ entries_in values → entries_in values ≤ i → i ≡ first_bad size values
  seek_end i seeks most least =
      let e : i ≡ entries_in values = omega arith in
      e ∙ sym (first_end _ (entries_in values)) ∙ rw e at seeks

-- where the search finds none, none is bad
pub none_bad : (area values : List ℕ) → entries_in values ≤ first_bad (length area) values → Good area values
unfolding first_bad
none_bad area values none k aligned within =
    let at : entry_words * (k / entry_words) ≡ k = omega arith in
    ap (bad_entry (length area) values) (sym at) ∙ first_none (λ (j : ℕ). bad_entry (length area) values (entry_words * j)) 0 (entries_in values) (k / entry_words) (omega arith) (omega arith)

-- The order

module _ (area rows values : List ℕ) where
  pub rule_1 : (length values % entry_words ≡ 0 → ⊥) → ChecksTables area rows values (Err (BadTable 1 (length values / entry_words)))
  unfolding table_order
  rule_1 h rest = rw (ne_eqb (length values % entry_words) 0 h)

  module _ (whole : length values % entry_words ≡ 0) where
    pub rule_2 : eqb (total rows) (length values / entry_words) ≡ false → ChecksTables area rows values (Err (BadTable 2 (length rows)))
    unfolding table_order
    rule_2 h rest = rw (eq-eqb (length values % entry_words) 0 whole, h)

    module _ (sums : eqb (total rows) (length values / entry_words) ≡ true) (first : ℕ) (is : first ≡ first_bad (length area) values) where
      pub rule_3 : first < length values / entry_words → ChecksTables area rows values (Err (BadTable 3 first))
      unfolding table_order
      rule_3 h rest = rw (eq-eqb (length values % entry_words) 0 whole, sums, ← is, lt-ltb first (length values / entry_words) h)

      module _ (none : length values / entry_words ≤ first) where
        pub many_rows : max_rows < length rows → ChecksTables area rows values (Err (TooManyRows (length rows)))
        unfolding table_order
        many_rows h rest = rw (eq-eqb (length values % entry_words) 0 whole, sums, ← is, le-ltb first (length values / entry_words) none, lt-ltb max_rows (length rows) h)

        pub tables_pass : length rows ≤ max_rows → ChecksTables area rows values (Ok tt)
        unfolding table_order
        tables_pass h =
            let all : total rows ≡ length values / entry_words = eqb-true (total rows) (length values / entry_words) sums in (
              record { whole = omega arith; good = none_bad area values (omega (arith, is)) },
              λ rest. rw (eq-eqb (length values % entry_words) 0 whole, sums, ← is, le-ltb first (length values / entry_words) none, le-ltb max_rows (length rows) h),
            )
