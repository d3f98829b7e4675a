-- What one field of a dictionary or of an error holds. Assumes nothing.
use mathlib.Core.Path.{◌≡◌, refl, sym, ◌∙◌}
use mathlib.Core.List.{List}
use Prim.Native.Nat.{ℕ, suc, ◌+◌, ◌-◌, ◌<◌, ◌≤◌}
use native.Mathlib.Nat.{add-zero}
use native.Mathlib.Omega.{arith}
use borrow.Author.Tests.{eq-eqb, ne_eqb}
use Rattle.field.specs.Field.{number_at, stop_at}
use Rattle.error_tree.specs.Message.{error_fields, dictionary_fields, fields}
use Rattle.error_tree.specs.Tree.{none, dictionary, field_parts, inner_part, parts, error_count, attribute_count}
use Rattle.error_tree.specs.Reading.{check_entry, check_field, check_inner}
use Rattle.error_tree.specs.Statement.{Lies}
use Rattle.error_walk.specs.Stages.{sum_of, entry_count, WalksAttribute, WalksEntry, WalksDictionary, WalksInside, WalksError}
use Rattle.error_tree.specs.declared.refusal.ErrorRefusal.{ErrorRefusal}
use Rattle.error_tree.specs.declared.refusal.ErrorRefusal.TheVariants.{ErrorsTooDeep}
use Rattle.error_walk.specs.declared.walk.Counted.{Counted}
use Rattle.std.specs.declared.result.Result.{Result}
use Rattle.std.specs.declared.result.Result.TheVariants.{Ok, Err}
use Rattle.field.specs.declared.field.Field.{Field}
use Rattle.error_tree.proofs.TreeLaws.{dictionary_errors}
use Rattle.error_walk.proofs.CountLaws.{sum_no, dictionary_attributes, parts_errors, parts_attributes}

module _ (s : List ℕ) (at : ℕ) (f : Field) (lies : Lies s at f) where
  long : at < stop_at s at
  long =
      let there : f.stop ≡ stop_at s at = lies.2 in
      let low : at < f.content = lies.3 in
      let high : f.content ≤ f.stop = lies.4 in
      omega arith

  -- A dictionary's field

  pub entry_none : (f.number ≡ 1 → ⊥) → WalksEntry s at (Ok record { errors = 0; attributes = 0 })
  unfolding check_entry
  entry_none h =
      let other : number_at s at ≡ 1 → ⊥ = λ e. h (lies.0 ∙ e) in
      rw (ne_eqb (number_at s at) 1 other) (refl, refl, omega arith, (λ rest. refl))

  module _ (one : f.number ≡ 1) where
    one_at : number_at s at ≡ 1
    one_at = sym lies.0 ∙ one

    pub entry_stop : (refusal : ErrorRefusal) → WalksAttribute s f.content f.stop (Err refusal) → WalksEntry s at (Err refusal)
    unfolding check_entry
    entry_stop refusal stops = rw (eq-eqb (number_at s at) 1 one_at, ← lies.1, ← lies.2) stops

    pub entry_one : (c : Counted) → WalksAttribute s f.content f.stop (Ok c) → WalksEntry s at (Ok record { errors = 0; attributes = 1 })
    unfolding check_entry
    entry_one c passes =
        let far : at < stop_at s at = long in
        rw (eq-eqb (number_at s at) 1 one_at) (refl, refl, omega arith, rw (← lies.1, ← lies.2) passes.3)

  -- An error's field

  module _ (left : ℕ) where
    pub inside_none : (f.number ≡ 3 → ⊥) → (f.number ≡ 4 → ⊥) → WalksInside left s at (Ok record { errors = 0; attributes = 0 })
    unfolding check_field field_parts error_count attribute_count
    inside_none three four =
        rw (ne_eqb (number_at s at) 3 (λ e. three (lies.0 ∙ e)), ne_eqb (number_at s at) 4 (λ e. four (lies.0 ∙ e))) (refl, refl, omega arith, (λ rest. refl))

    pub inside_dictionary : f.number ≡ 3 → (r : Result Counted ErrorRefusal) → WalksDictionary s f.content f.stop r → WalksInside left s at r
    unfolding check_field field_parts error_count attribute_count
    inside_dictionary three (Err refusal) w = rw (eq-eqb (number_at s at) 3 (sym lies.0 ∙ three), ← lies.1, ← lies.2) w
    inside_dictionary three (Ok c) w =
        let there : f.stop ≡ stop_at s at = lies.2 in
        let low : at < f.content = lies.3 in
        let few : c.errors + c.attributes ≤ f.stop - f.content = w.2 in
        let fs : List ℕ = fields dictionary_fields s f.content f.stop in
        let es : c.errors ≡ error_count (dictionary s fs none) = w.0 ∙ sum_no fs ∙ sym (dictionary_errors s fs none) in
        let «as» : c.attributes ≡ attribute_count (dictionary s fs none) = w.1 ∙ sym (add-zero (sum_of (entry_count s) fs)) ∙ sym (dictionary_attributes s fs none) in
        rw (eq-eqb (number_at s at) 3 (sym lies.0 ∙ three), ← lies.1, ← lies.2) (es, «as», omega arith, w.3)

    module _ (four : f.number ≡ 4) where
      four_at : number_at s at ≡ 4
      four_at = sym lies.0 ∙ four

      pub inside_deep : left ≡ 0 → WalksInside left s at (Err (ErrorsTooDeep at))
      unfolding check_field check_inner
      inside_deep h = rw (h, four_at) (λ rest. refl)

      module _ (some : (left ≡ 0) → ⊥) where
        level : left ≡ suc (left - 1)
        level = omega arith

        pub inside_stop : (refusal : ErrorRefusal) → WalksError (left - 1) s f.content f.stop (Err refusal) → WalksInside left s at (Err refusal)
        unfolding check_field check_inner
        inside_stop refusal stops = rw (level, four_at, ← lies.1, ← lies.2) stops

        module _ (c : Counted) (passes : WalksError (left - 1) s f.content f.stop (Ok c)) where
          pub inside_error : WalksInside left s at (Ok record { errors = c.errors + 1; attributes = c.attributes })
          unfolding check_field check_inner field_parts inner_part error_count attribute_count
          inside_error =
              let there : f.stop ≡ stop_at s at = lies.2 in
              let low : at < f.content = lies.3 in
              let high : f.content ≤ f.stop = lies.4 in
              let few : c.errors + c.attributes ≤ f.stop - f.content = passes.2 in
              let fs : List ℕ = fields error_fields s f.content f.stop in
              let es : c.errors ≡ error_count (parts (left - 1) s fs) = passes.0 ∙ sym (parts_errors (left - 1) s fs) in
              let «as» : c.attributes ≡ attribute_count (parts (left - 1) s fs) = passes.1 ∙ sym (parts_attributes (left - 1) s fs) in
              rw (level, four_at, ← lies.1, ← lies.2) (omega arith, omega arith, omega arith, passes.3)
