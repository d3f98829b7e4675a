-- Laws of the fields that a message knows, and of the list of its fields. Assumes nothing.
use mathlib.Core.Path.{◌≡◌, refl, sym, ◌∙◌, ap}
use mathlib.Core.Bool.{Bool, true, false, ◌&&◌}
use mathlib.Core.List.{List, [], ◌∷◌}
use Prim.Native.Nat.{ℕ, zero, suc, ◌+◌, ◌-◌, ◌<◌, ◌≤◌}
use native.Mathlib.Omega.{arith}
use borrow.Author.Tests.{lt-ltb, le-ltb, eq-eqb, ne_eqb}
use Rattle.words.specs.Decide.{pick}
use Rattle.words.proofs.DecideLaws.{pick_case}
use Rattle.field.specs.Field.{type_code, number_at, type_at, stop_at, whole_field}
use Rattle.field.specs.Statement.{ReadsField}
use Rattle.field.specs.declared.field.Field.{Field}
use Rattle.field.specs.declared.field.WireType.{WireType}
use Rattle.field.specs.declared.field.WireType.TheVariants.{Varint, Bytes}
use Rattle.std.specs.declared.option.Option.TheVariants.{Some, None}
use Rattle.field.proofs.FieldLaws.{type_one, stop_far, whole_before}
use Rattle.error_tree.specs.Message.{wire_type, whole_in, fields_in, fields}
use Rattle.error_tree.specs.Stages.{TypesField}
use Rattle.error_tree.specs.Statement.{ReadsKnown}

-- The wire type

module _ (known number : ℕ) where
  pub type_any : known < number → TypesField known number None
  unfolding wire_type
  type_any h = rw (lt-ltb known number h)

  module _ (low : number ≤ known) where
    pub type_number : known ≡ 4 → number ≡ 1 → TypesField known number (Some Varint)
    unfolding wire_type
    type_number k n = (rw (le-ltb known number low, k, n), omega arith)

    pub type_other : known ≡ 4 → (number ≡ 1 → ⊥) → TypesField known number (Some Bytes)
    unfolding wire_type
    type_other k n = (rw (le-ltb known number low, k, ne_eqb number 1 n), omega arith)

    pub type_bytes : (known ≡ 4 → ⊥) → TypesField known number (Some Bytes)
    unfolding wire_type
    type_bytes k = (rw (le-ltb known number low, ne_eqb known 4 k), omega arith)

-- A field of a message

pub known_cut : (known : ℕ) (s : List ℕ) (at end : ℕ) → ReadsField s at end None → ReadsKnown known s at end None
unfolding whole_in
known_cut known s at end h = let cut : whole_field s at end ≡ false = h in rw cut

module _ (known : ℕ) (s : List ℕ) (at end : ℕ) (f : Field) (all : ReadsField s at end (Some f)) where
  held : whole_in known s at end ≡ true → ReadsKnown known s at end (Some f)
  held w = (w, all.1, all.2, all.3, all.4, all.5, all.6, all.7, all.8)

  pub known_any : TypesField known f.number None → ReadsKnown known s at end (Some f)
  unfolding whole_in
  known_any any = let h : wire_type known (number_at s at) ≡ 8 = rw all.1 at any in held (rw (all.0, h))

  module _ (own : WireType) (types : TypesField known f.number (Some own)) where
    own_is : wire_type known (number_at s at) ≡ type_code own
    own_is = rw all.1 at types.0

    own_not : type_code own ≡ 8 → ⊥
    own_not = let low : type_code own < 8 = types.1 in omega arith

    pub known_own : own ≡ f.wire → ReadsKnown known s at end (Some f)
    unfolding whole_in
    known_own h = held (rw (all.0, own_is, ne_eqb (type_code own) 8 own_not, eq-eqb (type_code own) (type_at s at) (ap type_code h ∙ all.2)))

    pub known_other : (own ≡ f.wire → ⊥) → ReadsKnown known s at end None
    unfolding whole_in
    known_other h =
        rw (all.0, own_is, ne_eqb (type_code own) 8 own_not, ne_eqb (type_code own) (type_at s at) (λ e. h (type_one own f.wire (e ∙ sym all.2))))

-- The list of the fields: what is whole at `at` is the first of them, and where nothing is there is none

module _ (known : ℕ) (s : List ℕ) (end : ℕ) where
  pub in_before : (at : ℕ) → whole_in known s at end ≡ true → at < end
  unfolding whole_in
  in_before at h = whole_before s at end (and_left (whole_field s at end) _ h)
    where
      and_left : (a b : Bool) → (a && b) ≡ true → a ≡ true
      and_left true b h = refl
      and_left false b h = h

  -- more than enough is as good as enough
  enough : (n m at : ℕ) → end ≤ at + n → end ≤ at + m → fields_in n known s at end ≡ fields_in m known s at end
  unfolding fields_in
  enough zero zero at hn hm = refl
  enough zero (suc m) at hn hm =
      pick_case (whole_in known s at end) (at ∷ fields_in m known s (stop_at s at) end) [] (λ (l : List ℕ). [] ≡ l) (λ e. absurd (let h : at < end = in_before at e in omega arith)) (λ e. refl)
  enough (suc n) zero at hn hm =
      pick_case (whole_in known s at end) (at ∷ fields_in n known s (stop_at s at) end) [] (λ (l : List ℕ). l ≡ []) (λ e. absurd (let h : at < end = in_before at e in omega arith)) (λ e. refl)
  enough (suc n) (suc m) at hn hm =
      let far : at < stop_at s at = stop_far s at in
      ap (λ (l : List ℕ). pick (whole_in known s at end) (at ∷ l) []) (enough n m (stop_at s at) (omega arith) (omega arith))

  pub fields_more : (at : ℕ) → whole_in known s at end ≡ true → fields known s at end ≡ at ∷ fields known s (stop_at s at) end
  unfolding fields_in
  fields_more at h =
      let before : at < end = in_before at h in
      let far : at < stop_at s at = stop_far s at in
      let one : end - at ≡ suc (end - (at + 1)) = omega arith in
      rw (one, h) (ap (λ (l : List ℕ). at ∷ l) (enough (end - (at + 1)) (end - stop_at s at) (stop_at s at) (omega arith) (omega arith)))

  pub fields_none : (at : ℕ) → whole_in known s at end ≡ false → fields known s at end ≡ []
  unfolding fields_in
  fields_none at h = enough (end - at) (suc (end - at)) at (omega arith) (omega arith) ∙ rw h

  pub fields_end : (at : ℕ) → end ≤ at → fields known s at end ≡ []
  unfolding fields_in
  fields_end at h = enough (end - at) 0 at (omega arith) (omega arith)
