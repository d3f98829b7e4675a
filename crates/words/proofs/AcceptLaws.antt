-- What an accepted answer says of the lines that refuse: they are silent. Assumes nothing.
use mathlib.Core.Path.{◌≡◌, refl, sym, ◌∙◌, ap}
use mathlib.Core.Bool.{Bool, true, false}
use mathlib.Core.List.{List, [], ◌∷◌}
use Prim.Native.Nat.{ℕ}
use native.Mathlib.Omega.{arith}
use Rattle.words.specs.Decide.{Line, ◌⇒◌, Silent, decide}
use Rattle.words.specs.Answer.{Answer, accepted, more, refused}

abbrev pub is_accepted : Answer → Bool
is_accepted (accepted n fields) = true
is_accepted more = false
is_accepted (refused number values consumed) = false

abbrev pub accepted_count : Answer → ℕ
accepted_count (accepted n fields) = n
accepted_count more = 0
accepted_count (refused number values consumed) = 0

abbrev pub accepted_fields : Answer → List ℕ
accepted_fields (accepted n fields) = fields
accepted_fields more = []
accepted_fields (refused number values consumed) = []

-- no line of the list accepts
abbrev pub Refusing : List (Line Answer) → Type 0
Refusing [] = Unit {0}
Refusing ((test ⇒ answer) ∷ lines) = (is_accepted answer ≡ false) × Refusing lines

apart : true ≡ false → ⊥
apart e = let z : ◌≡◌ {A = ℕ} 0 1 = cc in omega arith

-- where such a list accepts, no test holds, and the answer is the last one
pub silent : (lines : List (Line Answer)) {last answer : Answer} → Refusing lines → decide lines last ≡ answer → is_accepted answer ≡ true
    → Silent lines × (last ≡ answer)
silent [] refusing e good = (tt, e)
silent ((true ⇒ x) ∷ lines) refusing e good = absurd (apart (sym good ∙ ap is_accepted (sym e) ∙ refusing.0))
silent ((false ⇒ x) ∷ lines) refusing e good =
    let rest = silent lines refusing.1 e good in
    ((refl, rest.0), rest.1)

-- where it refuses, the last answer does not count
pub decided : (lines : List (Line Answer)) {answer : Answer} (last other : Answer) → is_accepted last ≡ true → decide lines last ≡ answer → is_accepted answer ≡ false
    → decide lines other ≡ answer
decided [] last other good e bad = absurd (apart (sym good ∙ ap is_accepted e ∙ bad))
decided ((true ⇒ x) ∷ lines) last other good e bad = e
decided ((false ⇒ x) ∷ lines) last other good e bad = decided lines last other good e bad
