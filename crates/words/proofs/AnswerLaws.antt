-- What is not taken changes no lent memory, and a refusal is no acceptance. Assumes nothing.
use Prim.Native.Nat.{ℕ}
use mathlib.Core.List.{List}
use mathlib.Core.Path.{◌≡◌, refl, ap}
use native.Mathlib.Omega.{arith}
use Rattle.words.specs.Answer.{Answer, accepted, more, refused, NotTaken, afterwards}

pub not_taken_keeps : (a : Answer) (ws xs : List ℕ) → NotTaken a → afterwards a ws xs ≡ xs
not_taken_keeps (accepted n fields) ws xs taken = absurd taken
not_taken_keeps more ws xs taken = refl
not_taken_keeps (refused number values consumed) ws xs taken = refl

abbrev pub is_refused : Answer → ℕ
is_refused (accepted n fields) = 0
is_refused more = 0
is_refused (refused number values consumed) = 1

pub refused_not_accepted : (number : ℕ) (values : List ℕ) (consumed n : ℕ) (fields : List ℕ) → refused number values consumed ≡ accepted n fields → ⊥
refused_not_accepted number values consumed n fields e = let z : ◌≡◌ {A = ℕ} 1 0 = ap is_refused e in omega arith
