-- Laws of the plain form: what is still to be looked at is all that a contract speaks of. Assumes nothing.
use mathlib.Core.Path.{◌≡◌, refl, sym, ◌∙◌, ap}
use mathlib.Core.Bool.{Bool, true, false, true≢false, ◌&&◌}
use mathlib.Core.List.{List, []}
use Prim.Native.Nat.{ℕ, zero, suc, ◌+◌, ◌-◌, ◌*◌, ◌<◌, ◌≤◌}
use native.Mathlib.Nat.{sub-zero, add-zero}
use native.Mathlib.Omega.{arith}
use lib.Dec.{ltb, eqb}
use lib.ListN.{length, get_or, take, drop}
use lib.Seq.{get_or-take, get_or-drop}
use borrow.Author.Tests.{lt-ltb, le-ltb, eq-eqb, ne_eqb}
use Rattle.words.specs.Answer.{accepted}
use Rattle.words.specs.Decide.{pick}
use Rattle.words.specs.Word.{word}
use Rattle.words.proofs.WordLaws.{word_take, word_drop}
use Rattle.wire.specs.Layout.{boolean, max_size, scalar, blob, padding, padded, values_in, type_at, aggregate_at, length_at, scalar_at, count_at, next_value, next_values, next_row, next_rows}
use Rattle.wire.specs.Paper.{paper}
use Rattle.wire_value.specs.ValueOf.{header_at}
use Rattle.wire.specs.declared.error.WireError.{WireError}
use Rattle.wire.proofs.PaperLaws.{paper_not_taken}
use Rattle.wire_read.proofs.ReadingLaws.{accepts_walks, not_accepted}
use Rattle.wire_value.specs.declared.value.Header.{Header}
use Rattle.wire.proofs.TypeLaws.{blob_yes, blob_low}
use Rattle.wire_value.proofs.HeaderLaws.{header_kind, header_aggregate, header_length}
use Rattle.wire.proofs.LayoutLaws.{next_values_more, next_rows_more, next_values_far, next_row_far, next_rows_far}
use Rattle.wire_read.specs.Plain.{zeros, plain_value, plain_values, plain_rows, is_accepted, plain}
use Rattle.wire_read.specs.Stages.{PlainTill, WalksRowset}
use Rattle.std.specs.declared.option.Option.{Option}
use Rattle.std.specs.declared.option.Option.TheVariants.{Some, None}
use Rattle.std.specs.declared.result.Result.{Result}
use Rattle.std.specs.declared.result.Result.TheVariants.{Ok, Err}
use Rattle.wire_read.specs.declared.walk.Walked.{Walked}

-- Headers

-- the bytes of a header, lent by themselves, have the header that stands at their place
pub header_lent : (s : List ℕ) (at : ℕ) → header_at (take (at + 8 - at) (drop at s)) 0 ≡ header_at s at
unfolding header_at
header_lent s at =
    let lent : List ℕ = take (at + 8 - at) (drop at s) in
    let words : (k j : ℕ) → j + k ≤ 8 → word k lent j ≡ word k s (at + j) = λ k j h. word_take k (at + 8 - at) (drop at s) j (omega arith) ∙ word_drop k at s j in
    let bytes : (j : ℕ) → j < 8 → get_or lent j 0 ≡ get_or s (at + j) 0 = λ j h. get_or-take (at + 8 - at) (drop at s) j 0 (omega arith) ∙ get_or-drop at s j 0 in
    let first : word 2 lent 0 ≡ word 2 s at = words 2 0 (omega arith) ∙ ap (word 2 s) (add-zero at) in
    λ i. record { id = first i; kind = bytes 2 (omega arith) i; aggregate = bytes 3 (omega arith) i; length = words 4 4 (omega arith) i }

-- Zeros

zeros_more : (s : List ℕ) (n at : ℕ) → 0 < n → zeros s n at ≡ pick (eqb (get_or s at 0) 0) (zeros s (n - 1) (at + 1)) false
unfolding zeros
zeros_more s zero at h = absurd (omega arith)
zeros_more s (suc m) at h = let e : suc m - 1 ≡ m = omega arith in rw e

abbrev pub ZerosLeft : List ℕ → ℕ → ℕ → ℕ → ℕ → Type 0
ZerosLeft s n start left at = (at + left ≤ length s) × (zeros s left at ≡ zeros s n start)

module _ (s : List ℕ) (n start left at : ℕ) (inv : ZerosLeft s n start left at) where
  pub zeros_not : 0 < left → (get_or s at 0 ≡ 0 → ⊥) → false ≡ zeros s n start
  zeros_not more h = sym (sym inv.1 ∙ zeros_more s left at more ∙ rw (ne_eqb (get_or s at 0) 0 h))

  pub zeros_go : 0 < left → get_or s at 0 ≡ 0 → ZerosLeft s n start (left - 1) (at + 1)
  zeros_go more h = (omega (arith, inv.0), sym (zeros_more s left at more ∙ rw (eq-eqb (get_or s at 0) 0 h)) ∙ inv.1)

  pub zeros_end : left ≤ 0 → true ≡ zeros s n start
  unfolding zeros
  zeros_end h = let none : left ≡ 0 = omega arith in rw none at inv.1

-- A value

alone : (t : Bool) → t ≡ (t && true)
alone true = refl
alone false = refl

never_scalar : scalar boolean ≡ false → ⊥
never_scalar e = true≢false e

module _ (s : List ℕ) (at : ℕ) (header : Header) (is : header ≡ header_at s at) where
  kind_is : header.kind ≡ type_at s at
  kind_is = header_kind s at header is

  pub value_aggregate : 1 < header.aggregate → false ≡ plain_value s at
  unfolding plain_value
  value_aggregate h = rw (le-ltb (aggregate_at s at) 2 (rw (header_aggregate s at header is) at h))

  module _ (one : header.aggregate ≤ 1) where
    flag_is : ltb (aggregate_at s at) 2 ≡ true
    flag_is = let h : aggregate_at s at ≤ 1 = rw (header_aggregate s at header is) at one in lt-ltb (aggregate_at s at) 2 (omega arith)

    -- what is neither a blob nor a boolean is plain by its length word
    length_plain : blob (type_at s at) ≡ false → (type_at s at ≡ boolean → ⊥) → eqb header.length 0 ≡ plain_value s at
    unfolding plain_value
    length_plain b other = rw (flag_is, b, ne_eqb (type_at s at) boolean other, header_length s at header is) (alone (eqb (length_at s at) 0))

    pub value_unknown : scalar header.kind ≡ false → blob header.kind ≡ false → eqb header.length 0 ≡ plain_value s at
    value_unknown n b =
        let none : scalar (type_at s at) ≡ false = rw kind_is at n in
        length_plain (rw kind_is at b) (λ e. never_scalar (rw e at none))

    module _ (low : 3 ≤ header.kind) (high : header.kind < 7) where
      no_blob : blob (type_at s at) ≡ false
      no_blob = let h : type_at s at < 7 = rw kind_is at high in blob_low (type_at s at) (omega arith)

      pub scalar_length : (header.length ≡ 0 → ⊥) → false ≡ plain_value s at
      unfolding plain_value
      scalar_length h = rw (flag_is, no_blob, ne_eqb (length_at s at) 0 (λ e. h (header_length s at header is ∙ e)))

      module _ (none : header.length ≡ 0) where
        pub word_plain : (header.kind ≡ boolean → ⊥) → true ≡ plain_value s at
        word_plain other = sym (eq-eqb header.length 0 none) ∙ length_plain no_blob (λ e. other (kind_is ∙ e))

        pub boolean_plain : header.kind ≡ boolean → (n : ℕ) → n ≡ scalar_at s at → ltb n 2 ≡ plain_value s at
        unfolding plain_value
        boolean_plain h n e =
            let type : type_at s at ≡ boolean = sym kind_is ∙ h in
            rw (flag_is, no_blob, eq-eqb (length_at s at) 0 (sym (header_length s at header is) ∙ none), eq-eqb (type_at s at) boolean type, e)

    module _ (low : 16 ≤ header.kind) (high : header.kind ≤ 18) where
      pub blob_plain : (size : ℕ) (r : Bool) → size ≡ padded header.length → r ≡ zeros s (size - header.length) (at + 8 + header.length) → r ≡ plain_value s at
      unfolding plain_value
      blob_plain size r e z =
          let type : type_at s at ≤ 18 = rw kind_is at high in
          let fill : size - header.length ≡ padding header.length = rw e (omega arith) in
          rw (flag_is, blob_yes (type_at s at) (rw kind_is at low) (omega arith), ← header_length s at header is)
          (rw fill at z)

-- Values

plain_values_more : (s : List ℕ) (n at : ℕ) → 0 < n → plain_values s n at ≡ pick (plain_value s at) (plain_values s (n - 1) (next_value s at)) false
unfolding plain_values
plain_values_more s zero at h = absurd (omega arith)
plain_values_more s (suc m) at h = let e : suc m - 1 ≡ m = omega arith in rw e

abbrev pub PlainLeft : List ℕ → ℕ → ℕ → ℕ → ℕ → Type 0
PlainLeft s n start left at =
    (next_values s left at ≡ next_values s n start) × (next_values s n start ≤ length s) × (plain_values s left at ≡ plain_values s n start)

module _ (s : List ℕ) (n start left at : ℕ) (inv : PlainLeft s n start left at) where
  pub plain_end : left ≤ 0 → PlainTill (plain_values s n start) (next_values s n start) (Some at)
  unfolding plain_values next_values
  plain_end h =
      let none : left ≡ 0 = omega arith in
      let next : at ≡ next_values s n start = rw none at inv.0 in
      let all : true ≡ plain_values s n start = rw none at inv.2 in
      (sym all, next)

  module _ (more : 0 < left) where
    pub plain_within : next_value s at ≤ length s
    plain_within =
        let far : next_value s at + 8 * (left - 1) ≤ next_values s (left - 1) (next_value s at) = next_values_far s (left - 1) (next_value s at) in
        let all : next_values s (left - 1) (next_value s at) ≡ next_values s n start = sym (next_values_more s left at more) ∙ inv.0 in
        omega (arith, inv.1)

    pub plain_not : (b : Bool) → b ≡ plain_value s at → b ≡ false → PlainTill (plain_values s n start) (next_values s n start) None
    plain_not b is e = sym inv.2 ∙ plain_values_more s left at more ∙ rw (← is, e)

    pub plain_go : (b : Bool) (next : ℕ) → b ≡ plain_value s at → b ≡ true → next ≡ next_value s at → PlainLeft s n start (left - 1) next
    plain_go b next is e there = (
      ap (next_values s (left - 1)) there ∙ sym (next_values_more s left at more) ∙ inv.0,
      inv.1,
      ap (plain_values s (left - 1)) there ∙ sym (plain_values_more s left at more ∙ rw (← is, e)) ∙ inv.2,
    )

-- Rows

abbrev pub PlainRowsLeft : List ℕ → ℕ → ℕ → ℕ → Type 0
PlainRowsLeft s count row at =
    (row ≤ count) × (next_rows s (count - row) at ≤ length s) × (plain_rows s (count - row) at ≡ plain_rows s count 8)

pub plain_rows_begin : (s : List ℕ) (count : ℕ) → next_rows s count 8 ≤ length s → PlainRowsLeft s count 0 8
plain_rows_begin s count h = rw (sub-zero count) (omega arith, h, refl)

plain_rows_more : (s : List ℕ) (count row : ℕ) → row < count → (at : ℕ)
    → plain_rows s (count - row) at ≡ pick (plain_values s (values_in (count_at s at)) (at + 8)) (plain_rows s (count - (row + 1)) (next_row s at)) false
unfolding plain_rows
plain_rows_more s count row h at = let e : count - row ≡ suc (count - (row + 1)) = omega arith in rw e

module _ (s : List ℕ) (count row at : ℕ) (inv : PlainRowsLeft s count row at) where
  pub plain_rows_end : count ≤ row → true ≡ plain_rows s count 8
  unfolding plain_rows
  plain_rows_end h = let none : count - row ≡ 0 = omega arith in rw none at inv.2

  module _ (more : row < count) (n : ℕ) (is : n ≡ values_in (count_at s at)) where
    row_end : next_values s n (at + 8) ≡ next_row s at
    unfolding next_row
    row_end = ap (λ (m : ℕ). next_values s m (at + 8)) is

    pub plain_row_within : (at + 8 ≤ length s) × (next_values s n (at + 8) ≤ length s)
    plain_row_within =
        let far : at + 8 + 8 * values_in (count_at s at) ≤ next_row s at = next_row_far s at in
        let rest : next_row s at + 8 * (count - (row + 1)) ≤ next_rows s (count - (row + 1)) (next_row s at) = next_rows_far s (count - (row + 1)) (next_row s at) in
        let all : next_rows s (count - row) at ≡ next_rows s (count - (row + 1)) (next_row s at) = next_rows_more s count row more at in
        (omega (arith, inv.1), rw row_end (omega (arith, inv.1)))

    module _ (r : Option ℕ) (tells : PlainTill (plain_values s n (at + 8)) (next_values s n (at + 8)) r) where
      pub plain_rows_not : r ≡ None → false ≡ plain_rows s count 8
      plain_rows_not e =
          let no : plain_values s n (at + 8) ≡ false = rw e at tells in
          let row-no : plain_values s (values_in (count_at s at)) (at + 8) ≡ false = rw is at no in
          sym (sym inv.2 ∙ plain_rows_more s count row more at ∙ rw row-no)

      pub plain_rows_go : (next : ℕ) → r ≡ Some next → PlainRowsLeft s count (row + 1) next
      plain_rows_go next e =
          let yes-till : PlainTill (plain_values s n (at + 8)) (next_values s n (at + 8)) (Some next) = rw e at tells in
          let row-yes : plain_values s (values_in (count_at s at)) (at + 8) ≡ true = rw is at yes-till.0 in
          let there : next ≡ next_row s at = yes-till.1 ∙ row_end in
          let all : next_rows s (count - row) at ≡ next_rows s (count - (row + 1)) next = rw there (next_rows_more s count row more at) in (
            omega arith,
            omega (arith, inv.1),
            ap (plain_rows s (count - (row + 1))) there ∙ sym (plain_rows_more s count row more at ∙ rw row-yes) ∙ inv.2,
          )

-- The rowset

-- a refusal is no acceptance
refusal_no : (e : WireError) → is_accepted (paper e) ≡ false
refusal_no e = not_accepted (paper e) (paper_not_taken e)

module _ (s : List ℕ) where
  pub plain_large : max_size < length s → false ≡ plain s
  unfolding plain
  plain_large h = rw (lt-ltb max_size (length s) h)

  module _ (small : length s ≤ max_size) (r : Result Walked WireError) (walks : WalksRowset s r) where
    pub plain_refused : (refusal : WireError) → r ≡ Err refusal → false ≡ plain s
    unfolding plain
    plain_refused refusal e =
        let stopped : WalksRowset s (Err refusal) = rw e at walks in
        rw (le-ltb max_size (length s) small, accepts_walks s, stopped (accepted 0 []), refusal_no refusal)

    module _ (end values count : ℕ) (e : r ≡ Ok record { next = end; values = values }) (is : count ≡ count_at s 0) where
      passed : WalksRowset s (Ok record { next = end; values = values })
      passed = rw e at walks

      pub plain_lies : next_rows s count 8 ≤ length s
      plain_lies = rw (is, ← passed.0) passed.2

      pub plain_accepted : (b : Bool) → b ≡ plain_rows s count 8 → b ≡ plain s
      unfolding plain
      plain_accepted b h = rw (le-ltb max_size (length s) small, accepts_walks s, passed.3 (accepted 0 []), ← is) h
