-- Where a text goes wrong, for any set of accepted texts. Document 02, A5: "The position is that of the first byte at
-- which no continuation could be accepted, or the text's length when it merely ends too soon." A1 says the same in
-- other words. Assumes nothing.
use Rattle.std.specs.Prelude.{ℕ, suc, List, ◌++◌, ◌⊎◌, ◌≡◌, length, take}

-- some accepted text begins with s
abbrev pub Mendable : (List ℕ → Type 0) → List ℕ → Type 0
Mendable accepted s = (rest : List ℕ) × accepted (s ++ rest)

-- the text s goes wrong at p
pub record Place (accepted : List ℕ → Type 0) (s : List ℕ) (p : ℕ) : Type 0 where
  pub refused : accepted s → ⊥
  -- the bytes before p can still be mended
  pub before : Mendable accepted (take p s)
  -- p is the text's length, or with the byte at p nothing mends them
  pub with_it : (p ≡ length s) ⊎ (Mendable accepted (take (suc p) s) → ⊥)
