-- What the kind of a type says of the type, and the kind of each type. Assumes nothing.
use mathlib.Core.Path.{◌≡◌, refl, sym, ◌∙◌}
use mathlib.Core.Logic.{◌⊎◌, inl, inr}
use mathlib.Core.Bool.{Bool, true, false, ◌&&◌}
use mathlib.Core.List.{[], ◌∷◌}
use Prim.Native.Nat.{ℕ, ◌<◌, ◌≤◌}
use native.Mathlib.Omega.{arith}
use lib.Dec.{ltb, eqb}
use borrow.Author.Tests.{ltb-true, eqb-true, eq-eqb, ne_eqb}
use Rattle.words.specs.Decide.{◌⇒◌, decide}
use Rattle.wire.specs.Layout.{null_type, scalar, blob, known}
use Rattle.wire.specs.Kind.{kind_of}
use Rattle.wire.specs.declared.kind.Kind.{Kind}
use Rattle.wire.specs.declared.kind.Kind.TheVariants.{Null, Scalar, Blob, Unknown}
use Rattle.wire.proofs.TypeLaws.{scalar_yes, scalar_low, scalar_high, blob_yes, blob_low, blob_high}

-- the kind by the three tests
abbrev by_tests : Bool → Bool → Bool → Kind
by_tests a b c = decide (a ⇒ Null ∷ b ⇒ Scalar ∷ c ⇒ Blob ∷ []) Unknown

-- the tests that a kind tells: its own holds, or none does
abbrev Tests : Bool → Bool → Bool → Kind → Type 0
Tests a b c Null = a ≡ true
Tests a b c Scalar = b ≡ true
Tests a b c Blob = c ≡ true
Tests a b c Unknown = (a ≡ false) × (b ≡ false) × (c ≡ false)

tests : (a b c : Bool) → Tests a b c (by_tests a b c)
tests true b c = refl
tests false true c = refl
tests false false true = refl
tests false false false = (refl, refl, refl)

both : (a b : Bool) → (a && b) ≡ true → (a ≡ true) × (b ≡ true)
both true b e = (refl, e)
both false b e = absurd (let z : ◌≡◌ {A = ℕ} 0 1 = cc in omega arith)

module _ (type : ℕ) where
  told : (k : Kind) → k ≡ kind_of type → Tests (eqb type null_type) (scalar type) (blob type) k
  unfolding kind_of
  told k e = rw e (tests (eqb type null_type) (scalar type) (blob type))

  pub kind_null : (k : Kind) → k ≡ kind_of type → k ≡ Null → type ≡ null_type
  kind_null k e is = eqb-true type null_type (told Null (sym is ∙ e))

  pub kind_scalar : (k : Kind) → k ≡ kind_of type → k ≡ Scalar → (2 < type) × (type < 7)
  kind_scalar k e is =
      let range = both (ltb 2 type) (ltb type 7) (told Scalar (sym is ∙ e)) in
      (ltb-true 2 type range.0, ltb-true type 7 range.1)

  pub kind_blob : (k : Kind) → k ≡ kind_of type → k ≡ Blob → (15 < type) × (type < 19)
  kind_blob k e is =
      let range = both (ltb 15 type) (ltb type 19) (told Blob (sym is ∙ e)) in
      (ltb-true 15 type range.0, ltb-true type 19 range.1)

  pub kind_unknown : (k : Kind) → k ≡ kind_of type → k ≡ Unknown → (known type ≡ false) × (scalar type ≡ false) × (blob type ≡ false)
  kind_unknown k e is =
      let t = told Unknown (sym is ∙ e) in
      (rw (t.0, t.1, t.2), t.1, t.2)

  -- a Null has no payload, and what is not known has none
  pub no_payload : (k : Kind) → k ≡ kind_of type → (k ≡ Null) ⊎ (k ≡ Unknown) → (scalar type ≡ false) × (blob type ≡ false)
  no_payload k e (inl is) =
      let null : type ≡ null_type = kind_null k e is in
      (scalar_low type (omega arith), blob_low type (omega arith))
  no_payload k e (inr is) = let unknown = kind_unknown k e is in (unknown.1, unknown.2)

  -- the kind of each type
  pub null_kind : type ≡ null_type → Null ≡ kind_of type
  unfolding kind_of
  null_kind h = rw (eq-eqb type null_type h)

  pub scalar_kind : 3 ≤ type → type ≤ 6 → Scalar ≡ kind_of type
  unfolding kind_of
  scalar_kind low high = rw (ne_eqb type null_type (λ e. omega arith), scalar_yes type low (omega arith))

  pub blob_kind : 16 ≤ type → type ≤ 18 → Blob ≡ kind_of type
  unfolding kind_of
  blob_kind low high = rw (ne_eqb type null_type (λ e. omega arith), scalar_high type (omega arith), blob_yes type low (omega arith))

  pub low_kind : type < 3 → (type ≡ null_type → ⊥) → Unknown ≡ kind_of type
  unfolding kind_of
  low_kind low other = rw (ne_eqb type null_type other, scalar_low type (omega arith), blob_low type (omega arith))

  pub middle_kind : 6 < type → type < 16 → Unknown ≡ kind_of type
  unfolding kind_of
  middle_kind low high = rw (ne_eqb type null_type (λ e. omega arith), scalar_high type low, blob_low type (omega arith))

  pub high_kind : 18 < type → Unknown ≡ kind_of type
  unfolding kind_of
  high_kind h = rw (ne_eqb type null_type (λ e. omega arith), scalar_high type (omega arith), blob_high type (omega arith))
