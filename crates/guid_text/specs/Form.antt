-- A GUID's text, said without a reader. Document 02, A5: exactly four fields between dashes, each of 1 to 8 hex digits
-- in either case, leading zeros allowed, no plus. Assumes nothing.
use Rattle.std.specs.Prelude.{ℕ, ◌<◌, ◌≤◌, List, [], ◌∷◌, ◌≡◌, length}
use Rattle.guid.specs.declared.Guid.{Guid}
use Rattle.guid_text.specs.Digits.{Digits, value}
use Rattle.guid_text.specs.Fields.{between}

-- a field of this word
pub record IsField (f : List ℕ) (w : ℕ) : Type 0 where
  pub any : 0 < length f
  pub short : length f ≤ 8
  pub hex : Digits f
  pub spells : w ≡ value 0 f

-- four fields, by whatever a field is, between dashes, the last word first
pub record FourFields (Field : List ℕ → ℕ → Type 0) (s : List ℕ) (g : Guid) : Type 0 where
  pub f3 : List ℕ
  pub f2 : List ℕ
  pub f1 : List ℕ
  pub f0 : List ℕ
  pub joined : s ≡ between (f3 ∷ f2 ∷ f1 ∷ f0 ∷ [])
  pub is3 : Field f3 g.w3
  pub is2 : Field f2 g.w2
  pub is1 : Field f1 g.w1
  pub is0 : Field f0 g.w0

-- s spells the GUID g
abbrev pub IsText : List ℕ → Guid → Type 0
IsText s g = FourFields IsField s g

-- the accepted texts
abbrev pub Accepted : List ℕ → Type 0
Accepted s = (g : Guid) × IsText s g
