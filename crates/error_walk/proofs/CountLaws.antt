-- Laws of the counts of errors and attributes: what follows adds up. Assumes nothing.
use mathlib.Core.Path.{◌≡◌, refl, sym, ◌∙◌, ap}
use mathlib.Core.Bool.{Bool, true, false}
use mathlib.Core.List.{List, [], ◌∷◌}
use Prim.Native.Nat.{ℕ, zero, suc, ◌+◌}
use native.Mathlib.Nat.{zero-add, add-zero, add_assoc}
use Rattle.words.specs.Decide.{pick, ◌=?◌}
use Rattle.field.specs.Field.{number_at}
use Rattle.error_tree.specs.Message.{dictionary_fields, inside}
use Rattle.error_tree.specs.Tree.{Parts, none, attribute, inner, dictionary, field_parts, parts_with, inner_part, parts, error_count, attribute_count}
use Rattle.error_walk.specs.Stages.{sum_of, no, entry_count, inner_errors, inner_attributes}
use Rattle.error_tree.proofs.TreeLaws.{dictionary_errors}

pub sum_no : (fs : List ℕ) → sum_of no fs ≡ 0
unfolding sum_of
sum_no [] = refl
sum_no (f ∷ fs) = zero-add (sum_of no fs) ∙ sum_no fs

pick_attributes : (b : Bool) (k kl v vl : ℕ) (p : Parts) → attribute_count (pick b (attribute k kl v vl p) p) ≡ pick b 1 0 + attribute_count p
unfolding attribute_count
pick_attributes true k kl v vl p = refl
pick_attributes false k kl v vl p = sym (zero-add (attribute_count p))

pub dictionary_attributes : (s fs : List ℕ) (more : Parts) → attribute_count (dictionary s fs more) ≡ sum_of (entry_count s) fs + attribute_count more
unfolding attribute_count dictionary sum_of
dictionary_attributes s [] more = sym (zero-add (attribute_count more))
dictionary_attributes s (f ∷ fs) more =
    pick_attributes (number_at s f =? 1) _ _ _ _ (dictionary s fs more)
    ∙ ap (λ (n : ℕ). entry_count s f + n) (dictionary_attributes s fs more)
    ∙ sym (add_assoc (entry_count s f) (sum_of (entry_count s) fs) (attribute_count more))

-- a count that adds up: each field's parts, then what follows
module _ (count : Parts → ℕ) (of_none : count none ≡ 0) (s : List ℕ)
    (of_inner : (code at n : ℕ) (held more : Parts) → count (inner code at n held more) ≡ count (inner code at n held none) + count more)
    (of-dictionary : (fs : List ℕ) (more : Parts) → count (dictionary s fs more) ≡ count (dictionary s fs none) + count more) where
  nothing_more : (more : Parts) → count more ≡ count none + count more
  nothing_more more = rw of_none (sym (zero-add (count more)))

  adds_inner : (left at : ℕ) (more : Parts) → count (inner_part left s at more) ≡ count (inner_part left s at none) + count more
  unfolding inner_part
  adds_inner zero at more = nothing_more more
  adds_inner (suc left) at more = of_inner _ _ _ _ more

  adds_field : (left at : ℕ) (more : Parts) → count (field_parts (inner_part left s) s at more) ≡ count (field_parts (inner_part left s) s at none) + count more
  unfolding field_parts
  adds_field left at more = choose (number_at s at =? 3) (number_at s at =? 4)
    where
      choose : (b c : Bool)
          → count (pick b (dictionary s (inside dictionary_fields s at) more) (pick c (inner_part left s at more) more))
          ≡ count (pick b (dictionary s (inside dictionary_fields s at) none) (pick c (inner_part left s at none) none)) + count more
      choose true c = of-dictionary (inside dictionary_fields s at) more
      choose false true = adds_inner left at more
      choose false false = nothing_more more

  adds_parts : (left : ℕ) (fs : List ℕ) → count (parts left s fs) ≡ sum_of (λ (at : ℕ). count (field_parts (inner_part left s) s at none)) fs
  unfolding parts_with sum_of
  adds_parts left [] = of_none
  adds_parts left (f ∷ fs) = adds_field left f (parts left s fs) ∙ ap (λ (n : ℕ). count (field_parts (inner_part left s) s f none) + n) (adds_parts left fs)

pub parts_errors : (left : ℕ) (s fs : List ℕ) → error_count (parts left s fs) ≡ sum_of (inner_errors left s) fs
unfolding error_count
parts_errors left s fs =
    adds_parts error_count refl s (λ code at n held more. rw add-zero) (λ gs more. dictionary_errors s gs more ∙ sym (ap (λ (n : ℕ). n + error_count more) (dictionary_errors s gs none) ∙ zero-add (error_count more))) left fs

pub parts_attributes : (left : ℕ) (s fs : List ℕ) → attribute_count (parts left s fs) ≡ sum_of (inner_attributes left s) fs
unfolding attribute_count
parts_attributes left s fs =
    adds_parts attribute_count refl s (λ code at n held more. rw add-zero)
    (λ gs more. dictionary_attributes s gs more ∙ sym (ap (λ (n : ℕ). n + attribute_count more) (dictionary_attributes s gs none ∙ add-zero (sum_of (entry_count s) gs)))) left fs
