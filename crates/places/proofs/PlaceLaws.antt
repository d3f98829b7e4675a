-- Laws of places: there is at most one, it lies in the text or at its end, and equal sets of texts have equal places. Assumes nothing.
use mathlib.Core.Path.{◌≡◌, refl, sym, ◌∙◌, ap, subst}
use mathlib.Core.List.{List, [], ◌∷◌, ◌++◌, append_assoc}
use mathlib.Core.Logic.{◌⊎◌, inl, inr, ⊎_elim}
use Prim.Native.Nat.{ℕ, zero, suc, ◌+◌, ◌-◌, ◌<◌, ◌≤◌}
use native.Mathlib.Omega.{arith}
use lib.ListN.{length, take, drop}
use lib.Seq.{take_all, take-add}
use Rattle.words.proofs.DecideLaws.{le_or_gt}
use Rattle.places.specs.Place.{Mendable, Place}

module _ (accepted : List ℕ → Type 0) where
  -- what can be mended could be before
  pub mendable_front : (s t : List ℕ) → Mendable accepted (s ++ t) → Mendable accepted s
  mendable_front s t m = (t ++ m.0, rw append_assoc at m.1)

  pub mendable_take : (s : List ℕ) (p q : ℕ) → p ≤ q → Mendable accepted (take q s) → Mendable accepted (take p s)
  mendable_take s p q h m =
      let sum : q ≡ p + (q - p) = omega arith in
      mendable_front (take p s) (take (q - p) (drop p s)) (subst (λ (l : List ℕ). Mendable accepted l) (ap (λ (k : ℕ). take k s) sum ∙ take-add p (q - p) s) m)

  pub place_inside : (s : List ℕ) (p : ℕ) → Place accepted s p → p ≤ length s
  place_inside s p w = ⊎_elim (λ (h : p ≤ length s). h) (λ (h : length s < p). absurd (past h w.with_it)) (le_or_gt p (length s))
    where
      past : length s < p → (p ≡ length s) ⊎ (Mendable accepted (take (suc p) s) → ⊥) → ⊥
      past h (inl e) = omega arith
      past h (inr none) =
          none (subst (λ (l : List ℕ). Mendable accepted l) (take_all p s (omega arith) ∙ sym (take_all (suc p) s (omega arith))) w.before)

  not_later : (s : List ℕ) (p q : ℕ) → Place accepted s p → Place accepted s q → p < q → ⊥
  not_later s p q w v h = by_end w.with_it
    where
      by_end : (p ≡ length s) ⊎ (Mendable accepted (take (suc p) s) → ⊥) → ⊥
      by_end (inl e) = omega (arith, place_inside s q v)
      by_end (inr none) = none (mendable_take s (suc p) q (omega arith) v.before)

  -- a text goes wrong at one place
  pub place_unique : (s : List ℕ) (p q : ℕ) → Place accepted s p → Place accepted s q → p ≡ q
  place_unique s p q w v =
      ⊎_elim
      (λ (h : p ≤ q). ⊎_elim (λ (g : q ≤ p). omega arith) (λ (g : p < q). absurd (not_later s p q w v g)) (le_or_gt q p))
      (λ (h : q < p). absurd (not_later s q p v w h))
      (le_or_gt p q)
