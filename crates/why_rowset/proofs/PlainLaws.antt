-- The first line of the plain form that holds in a value. Assumes nothing.
use Prim.Native.Nat.{ℕ, zero, suc, ◌+◌, ◌-◌, ◌<◌, ◌≤◌}
use mathlib.Core.Path.{◌≡◌, refl}
use mathlib.Core.Bool.{false}
use mathlib.Core.List.{List, ◌∷◌}
use native.Mathlib.Omega.{arith}
use lib.ListN.{length, get_or}
use borrow.Author.Tests.{lt-ltb, le-ltb, eq-eqb, ne_eqb}
use Rattle.words.specs.Decide.{◌⇒◌, ◌≠?◌}
use Rattle.wire.specs.Layout.{boolean, blob, padding, padded, type_at, aggregate_at, length_at, scalar_at, next_value}
use mathlib.Core.Logic.{◌⊎◌, inl, inr}
use Rattle.wire.specs.Kind.{kind_of}
use Rattle.wire.specs.declared.kind.Kind.{Kind}
use Rattle.wire.specs.declared.kind.Kind.TheVariants as K
use Rattle.wire.proofs.KindLaws.{kind_null, kind_scalar, kind_unknown}
use Rattle.wire.proofs.TypeLaws.{blob_yes, blob_low, payload_blob}
use Rattle.wire_value.specs.ValueOf.{header_at}
use Rattle.wire_value.specs.declared.value.Header.{Header}
use Rattle.wire_value.proofs.HeaderLaws.{header_kind, header_aggregate, header_length}
use Rattle.finding.specs.declared.Field.TheVariants.{Aggregate, Length, Word, Padding}
use Rattle.finding.specs.declared.Wanted.TheVariants.{Number}
use Rattle.finding.specs.declared.Finding.{Finding}
use Rattle.finding.specs.declared.Finding.TheVariants.{Fine, NotPlain}
use Rattle.why_rowset.specs.Plain.{breaks, padding_lines, plain_value_lines}
use Rattle.why_rowset.specs.Stages.{Finds, FindsWords}

-- Padding: `left` of n bytes are still to be looked at, from `at` on

padding_more : (s : List ℕ) (n at : ℕ) → 0 < n → padding_lines s n at ≡ (get_or s at 0 ≠? 0 ⇒ breaks "padding" at (get_or s at 0) 0) ∷ padding_lines s (n - 1) (at + 1)
unfolding padding_lines
padding_more s zero at h = absurd (omega arith)
padding_more s (suc m) at h = let e : suc m - 1 ≡ m = omega arith in rw e

abbrev pub PaddingLeft : List ℕ → ℕ → ℕ → ℕ → ℕ → Type 0
PaddingLeft s n start left at = (at + left ≤ length s) × ((r : Finding) → Finds (padding_lines s left at) r → Finds (padding_lines s n start) r)

module _ (s : List ℕ) (n start left at : ℕ) (inv : PaddingLeft s n start left at) where
  pub padding_stop : 0 < left → (get_or s at 0 ≡ 0 → ⊥) → Finds (padding_lines s n start) (NotPlain Padding at (get_or s at 0) (Number 0))
  padding_stop more h = inv.1 (NotPlain Padding at (get_or s at 0) (Number 0)) (λ rest. rw (padding_more s left at more, ne_eqb (get_or s at 0) 0 h))

  pub padding_go : 0 < left → get_or s at 0 ≡ 0 → PaddingLeft s n start (left - 1) (at + 1)
  padding_go more h = (omega (arith, inv.0), (λ r finds. inv.1 r (λ rest. rw (padding_more s left at more, eq-eqb (get_or s at 0) 0 h) (finds rest))))

  pub padding_end : left ≤ 0 → Finds (padding_lines s n start) Fine
  unfolding padding_lines
  padding_end h = let none : left ≡ 0 = omega arith in inv.1 Fine (rw none (λ rest. refl))

-- A value, its header given

module _ (s : List ℕ) (at : ℕ) (header : Header) (is : header ≡ header_at s at) where
  kind_is : header.kind ≡ type_at s at
  kind_is = header_kind s at header is

  length_is : header.length ≡ length_at s at
  length_is = header_length s at header is

  aggregate_is : header.aggregate ≡ aggregate_at s at
  aggregate_is = header_aggregate s at header is

  -- its two words
  pub words_length : (header.length ≡ 0 → ⊥) → FindsWords s at (NotPlain Length (at + 4) header.length (Number 0))
  words_length h rest = rw (← length_is, ne_eqb header.length 0 h)

  module _ (none : header.length ≡ 0) where
    pub words_other : (header.kind ≡ boolean → ⊥) → FindsWords s at Fine
    words_other h rest = rw (← length_is, eq-eqb header.length 0 none, ← kind_is, ne_eqb header.kind boolean h)

    module _ (same : header.kind ≡ boolean) (word : ℕ) (read : word ≡ scalar_at s at) where
      pub words_boolean : 1 < word → FindsWords s at (NotPlain Word (at + 8) word (Number 1))
      words_boolean h rest = rw (← length_is, eq-eqb header.length 0 none, ← kind_is, eq-eqb header.kind boolean same, ← read, lt-ltb 1 word h)

      pub words_plain : word ≤ 1 → FindsWords s at Fine
      words_plain h rest = rw (← length_is, eq-eqb header.length 0 none, ← kind_is, eq-eqb header.kind boolean same, ← read, le-ltb 1 word h)

  -- the whole of it
  pub value_aggregate : 1 < header.aggregate → Finds (plain_value_lines s at) (NotPlain Aggregate (at + 3) header.aggregate (Number 1))
  unfolding plain_value_lines
  value_aggregate h rest = rw (← aggregate_is, lt-ltb 1 header.aggregate h)

  module _ (one : header.aggregate ≤ 1) (r : Finding) where
    pub value_words_lem : blob (type_at s at) ≡ false → FindsWords s at r → Finds (plain_value_lines s at) r
    unfolding plain_value_lines padding_lines
    value_words_lem none finds rest = rw (← aggregate_is, le-ltb 1 header.aggregate one, none) (finds rest)

    pub value_padding : 15 < header.kind → header.kind < 19 → (size : ℕ) → size ≡ padded header.length
        → Finds (padding_lines s (size - header.length) (at + 8 + header.length)) r → Finds (plain_value_lines s at) r
    unfolding plain_value_lines
    value_padding low high size e finds rest =
        let fill : size - header.length ≡ padding header.length = rw e (omega arith) in
        let told = rw fill at finds in
        rw (← aggregate_is, le-ltb 1 header.aggregate one, ← kind_is, blob_yes header.kind low high, ne_eqb header.kind boolean (λ h. omega arith), ← length_is) (told rest)

  -- which kinds are no blobs
  pub no_blob : header.kind < 7 → blob (type_at s at) ≡ false
  no_blob h = rw (← kind_is) (blob_low header.kind (omega arith))

  pub other_blob : (k : Kind) → k ≡ kind_of header.kind → (k ≡ K.Null) ⊎ ((k ≡ K.Scalar) ⊎ (k ≡ K.Unknown)) → blob (type_at s at) ≡ false
  other_blob k e (inl is) = let null = kind_null header.kind k e is in no_blob (omega (arith, null))
  other_blob k e (inr (inl is)) = no_blob (kind_scalar header.kind k e is).1
  other_blob k e (inr (inr is)) = let none = (kind_unknown header.kind k e is).2 in rw (← kind_is) none

  -- where a blob's padding lies
  pub blob_ends : 15 < header.kind → header.kind < 19 → next_value s at ≡ at + 8 + padded header.length
  unfolding next_value
  blob_ends low high = rw (← kind_is, ← length_is, payload_blob header.kind header.length low high)
