-- The texts of document 01, before A5: "A field may begin with one "+" followed by at least one digit, the plus counted
-- in the 8". No function reads them any more; they stand here for the promise on what A5 changed. Assumes nothing.
use Rattle.std.specs.Prelude.{ℕ, ◌≤◌, List, [], ◌∷◌, ◌≡◌, length, get_or}
use Rattle.guid.specs.declared.Guid.{Guid}
use Rattle.guid_text.specs.Form.{IsField, FourFields}

abbrev pub plus : ℕ
plus = 43

pub data IsFieldBefore (f : List ℕ) (w : ℕ) : Type 0 where
  bare : IsField f w → IsFieldBefore f w
  led : (digits : List ℕ) → f ≡ plus ∷ digits → length f ≤ 8 → IsField digits w → IsFieldBefore f w

abbrev pub IsTextBefore : List ℕ → Guid → Type 0
IsTextBefore s g = FourFields IsFieldBefore s g

-- no field begins with a plus
abbrev pub Plusless : List (List ℕ) → Type 0
Plusless [] = Unit {0}
Plusless (f ∷ fs) = (get_or f 0 0 ≡ plus → ⊥) × Plusless fs
