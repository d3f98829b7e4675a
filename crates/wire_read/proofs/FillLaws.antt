-- Laws of the second walk: what a value's entry holds, and the tables while they are filled. Assumes nothing.
use mathlib.Core.Path.{◌≡◌, refl, sym, ◌∙◌, ap}
use mathlib.Core.Bool.{true, false}
use mathlib.Core.List.{List, [], ◌∷◌, ◌++◌}
use Prim.Native.Nat.{ℕ, suc, ◌+◌, ◌-◌, ◌*◌, ◌<◌, ◌≤◌}
use native.Mathlib.Nat.{sub-zero}
use native.Mathlib.Numerals.{add-one}
use native.Mathlib.Omega.{arith}
use lib.ListN.{length, set, length-set}
use lib.Seq.{sets, length-sets}
use Rattle.wire.specs.Layout.{scalar, blob, padded, values_in, flag, bits_of, type_at, length_at, scalar_at, count_at, next_value, next_values, next_row, next_rows, value_count, entry, entries, row_words, value_words, fourth, fifth, entry_words}
use Rattle.wire_value.specs.ValueOf.{header_at}
use Rattle.wire_value.specs.declared.value.Header.{Header}
use Rattle.wire.proofs.TypeLaws.{scalar_yes, blob_yes, blob_low, payload_none, payload_scalar, payload_blob}
use Rattle.wire_value.proofs.HeaderLaws.{header_id, header_kind, header_aggregate, header_length}
use Rattle.wire.proofs.LayoutLaws.{next_values_more, entries_more, next_rows_more, value_count_more, row_words_more, value_words_more, next_values_far, next_row_far, next_rows_far, length_entries, sets_append, sets_entry}

-- The last two words of the entry of the value at `at`, and where the next value begins

abbrev pub Filled : List ℕ → ℕ → ℕ → ℕ → ℕ → Type 0
Filled s at f g next = (f ≡ fourth s at) × (g ≡ fifth s at) × (next ≡ next_value s at)

module _ (s : List ℕ) (at : ℕ) where
  none_holds : scalar (type_at s at) ≡ false → blob (type_at s at) ≡ false → Filled s at 0 0 (at + 8)
  unfolding fourth fifth next_value
  none_holds n b = (rw (b, n), rw b, rw (payload_none (type_at s at) (length_at s at) n b) (omega arith))

  module _ (header : Header) (is : header ≡ header_at s at) where
    kind_is : header.kind ≡ type_at s at
    kind_is = header_kind s at header is

    pub unknown_holds : scalar header.kind ≡ false → blob header.kind ≡ false → Filled s at 0 0 (at + 8)
    unknown_holds n b = none_holds (rw kind_is at n) (rw kind_is at b)

    module _ (low : 3 ≤ header.kind) (high : header.kind < 7) where
      scalar_is : scalar (type_at s at) ≡ true
      scalar_is = scalar_yes (type_at s at) (rw kind_is at low) (rw kind_is at high)

      no_blob : blob (type_at s at) ≡ false
      no_blob = let h : type_at s at < 7 = rw kind_is at high in blob_low (type_at s at) (omega arith)

      pub scalar_next : at + 8 + 8 ≡ next_value s at
      unfolding next_value
      scalar_next = rw (payload_scalar (type_at s at) (length_at s at) (rw kind_is at low) (rw kind_is at high))

      pub scalar_holds : (n r : ℕ) → n ≡ scalar_at s at → r ≡ bits_of header.kind n → Filled s at r 0 (at + 8 + 8)
      unfolding fourth fifth
      scalar_holds n r word told = (rw (no_blob, scalar_is, told, word, kind_is), rw no_blob, scalar_next)

    module _ (low : 16 ≤ header.kind) (high : header.kind ≤ 18) where
      pub blob_next : at + 8 + padded header.length ≡ next_value s at
      unfolding next_value
      blob_next =
          let type : type_at s at ≤ 18 = rw kind_is at high in
          rw (header_length s at header is, payload_blob (type_at s at) (length_at s at) (rw kind_is at low) (omega arith))

      pub blob_holds : (size : ℕ) → size ≡ padded header.length → Filled s at (at + 8) header.length (at + 8 + size)
      unfolding fourth fifth
      blob_holds size e =
          let type : type_at s at ≤ 18 = rw kind_is at high in
          let is-blob : blob (type_at s at) ≡ true = blob_yes (type_at s at) (rw kind_is at low) (omega arith) in
          (rw is-blob, rw is-blob (header_length s at header is), ap (λ (n : ℕ). at + 8 + n) e ∙ blob_next)

-- the five words in their order
pub entry_words_lem : (s : List ℕ) (at : ℕ) (header : Header) → header ≡ header_at s at → (f g next a : ℕ) → Filled s at f g next → a ≡ flag header.aggregate
    → header.id ∷ header.kind ∷ a ∷ f ∷ g ∷ [] ≡ entry s at []
unfolding entry
entry_words_lem s at header is f g next a holds flagged =
    rw (flagged, header_id s at header is, header_kind s at header is, header_aggregate s at header is, holds.0, holds.1)

pub stored_entry : (xs : List ℕ) (k : ℕ) (s : List ℕ) (at a b d f g : ℕ) → a ∷ b ∷ d ∷ f ∷ g ∷ [] ≡ entry s at []
    → set (set (set (set (set xs k a) (k + 1) b) (k + 2) d) (k + 3) f) (k + 4) g ≡ sets xs k (entry s at [])
stored_entry xs k s at a b d f g e =
    let one : k + 1 ≡ suc k = omega arith in
    let two : k + 2 ≡ suc (suc k) = omega arith in
    let three : k + 3 ≡ suc (suc (suc k)) = omega arith in
    let four : k + 4 ≡ suc (suc (suc (suc k))) = omega arith in
    rw (← e, one, two, three, four)

-- Values: `left` of n are still to be filled in, from `at` on, to the word k of the table on

abbrev pub EntriesLeft : List ℕ → ℕ → ℕ → List ℕ → ℕ → List ℕ → ℕ → ℕ → ℕ → Type 0
EntriesLeft s n start values₀ first values left at k =
    (next_values s left at ≡ next_values s n start) × (next_values s n start ≤ length s) × (k + entry_words * left ≤ length values) × (length values ≡ length values₀)
    × (sets values k (entries s left at) ≡ sets values₀ first (entries s n start))

module _ (s : List ℕ) (n start : ℕ) (values₀ : List ℕ) (first : ℕ) (values : List ℕ) (left at k : ℕ) (inv : EntriesLeft s n start values₀ first values left at k) where
  pub entries_end : left ≤ 0 → (at ≡ next_values s n start) × (values ≡ sets values₀ first (entries s n start))
  unfolding next_values entries
  entries_end h =
      let none : left ≡ 0 = omega arith in
      let next : at ≡ next_values s n start = rw none at inv.0 in
      let table : values ≡ sets values₀ first (entries s n start) = rw none at inv.4 in
      (next, table)

  module _ (more : 0 < left) where
    pub entry_within : (next_value s at ≤ length s) × (k + entry_words ≤ length values)
    entry_within =
        let far : next_value s at + 8 * (left - 1) ≤ next_values s (left - 1) (next_value s at) = next_values_far s (left - 1) (next_value s at) in
        let all : next_values s (left - 1) (next_value s at) ≡ next_values s n start = sym (next_values_more s left at more) ∙ inv.0 in
        (omega (arith, inv.1), omega (arith, inv.2))

    pub entries_go : (values' : List ℕ) (at' : ℕ) → at' ≡ next_value s at → values' ≡ sets values k (entry s at [])
        → EntriesLeft s n start values₀ first values' (left - 1) at' (k + entry_words)
    entries_go values' at' next table =
        let same : length values' ≡ length values = ap length table ∙ length-sets values k (entry s at []) in (
          ap (next_values s (left - 1)) next ∙ sym (next_values_more s left at more) ∙ inv.0,
          inv.1,
          omega (arith, inv.2),
          same ∙ inv.3,
          rw (table, next) (sym (sets_entry values k s at (entries s (left - 1) (next_value s at))) ∙ ap (sets values k) (sym (entries_more s left at more)) ∙ inv.4),
        )

-- Rows: from the row number `row` on

abbrev pub TablesLeft : List ℕ → ℕ → List ℕ → List ℕ → List ℕ → List ℕ → ℕ → ℕ → ℕ → Type 0
TablesLeft s count rows₀ values₀ rows values row at k =
    (row ≤ count) × (count ≤ length rows₀) × (length rows ≡ length rows₀) × (length values ≡ length values₀)
    × (k + entry_words * value_count s (count - row) at ≤ length values₀)
    × (next_rows s (count - row) at ≤ length s)
    × (sets rows row (row_words s (count - row) at) ≡ sets rows₀ 0 (row_words s count 8))
    × (sets values k (value_words s (count - row) at) ≡ sets values₀ 0 (value_words s count 8))

pub tables_begin : (s : List ℕ) (count : ℕ) (rows values : List ℕ) → next_rows s count 8 ≤ length s → count ≤ length rows → entry_words * value_count s count 8 ≤ length values
    → TablesLeft s count rows values rows values 0 8 0
tables_begin s count rows values lies fits room =
    rw (sub-zero count) (omega arith, fits, refl, refl, omega arith, lies, refl, refl)

next_row_lem : (s : List ℕ) (at at' n : ℕ) → n ≡ values_in (count_at s at) → at' ≡ next_values s n (at + 8) → at' ≡ next_row s at
unfolding next_row
next_row_lem s at at' n is next = next ∙ ap (λ (m : ℕ). next_values s m (at + 8)) is

module _ (s : List ℕ) (count : ℕ) (rows₀ values₀ rows values : List ℕ) (row at k : ℕ) (inv : TablesLeft s count rows₀ values₀ rows values row at k) where
  pub tables_end : count ≤ row → (rows ≡ sets rows₀ 0 (row_words s count 8)) × (values ≡ sets values₀ 0 (value_words s count 8))
  unfolding row_words value_words
  tables_end h =
      let none : count - row ≡ 0 = omega arith in
      let first : rows ≡ sets rows₀ 0 (row_words s count 8) = rw none at inv.6 in
      let second : values ≡ sets values₀ 0 (value_words s count 8) = rw none at inv.7 in
      (first, second)

  module _ (more : row < count) where
    -- the row's values lie within the input, and the table has room for their entries
    pub row_lies : (at + 8 ≤ length s) × (next_values s (values_in (count_at s at)) (at + 8) ≤ length s) × (k + entry_words * values_in (count_at s at) ≤ length values₀)
    unfolding next_row
    row_lies =
        let far : at + 8 + 8 * values_in (count_at s at) ≤ next_row s at = next_row_far s at in
        let rest : next_row s at + 8 * (count - (row + 1)) ≤ next_rows s (count - (row + 1)) (next_row s at) = next_rows_far s (count - (row + 1)) (next_row s at) in
        let all : next_rows s (count - row) at ≡ next_rows s (count - (row + 1)) (next_row s at) = next_rows_more s count row more at in
        let sum : value_count s (count - row) at ≡ values_in (count_at s at) + value_count s (count - (row + 1)) (next_row s at) = value_count_more s count row more at in
        (omega (arith, inv.5), omega (arith, inv.5), omega (arith, inv.4))

    pub tables_go : (word n at' : ℕ) (values' : List ℕ) → word ≡ count_at s at → n ≡ values_in word → at' ≡ next_values s n (at + 8) → values' ≡ sets values k (entries s n (at + 8))
        → TablesLeft s count rows₀ values₀ (set rows row word) values' (row + 1) at' (k + entry_words * n)
    tables_go word n at' values' w e next table =
        let is : n ≡ values_in (count_at s at) = e ∙ ap values_in w in
        let there : at' ≡ next_row s at = next_row_lem s at at' n is next in
        let same : length values' ≡ length values = ap length table ∙ length-sets values k (entries s n (at + 8)) in
        let sum : value_count s (count - row) at ≡ n + value_count s (count - (row + 1)) at' = rw (there, is) (value_count_more s count row more at) in
        let all : next_rows s (count - row) at ≡ next_rows s (count - (row + 1)) at' = rw there (next_rows_more s count row more at) in (
          omega arith,
          inv.1,
          length-set rows row word ∙ inv.2,
          same ∙ inv.3,
          omega (arith, inv.4),
          omega (arith, inv.5),
          rw (w, there)
              (ap (λ (i : ℕ). sets (set rows row (count_at s at)) i (row_words s (count - (row + 1)) (next_row s at))) (add-one row)
              ∙ ap (sets rows row) (sym (row_words_more s count row more at)) ∙ inv.6),
          rw (table, there)
              (sym (sets_append values k (entry_words * n) (entries s n (at + 8)) (value_words s (count - (row + 1)) (next_row s at)) (length_entries s n (at + 8)))
              ∙ ap (λ (m : ℕ). sets values k (entries s m (at + 8) ++ value_words s (count - (row + 1)) (next_row s at))) is
              ∙ ap (sets values k) (sym (value_words_more s count row more at)) ∙ inv.7),
        )

    -- what filling in the row's values asks
    pub row_asks : (word n : ℕ) → word ≡ count_at s at → n ≡ values_in word → (next_values s n (at + 8) ≤ length s) × (k + entry_words * n ≤ length values)
    row_asks word n w e = rw (e, w, inv.3) (row_lies.1, row_lies.2)
