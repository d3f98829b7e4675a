-- A text as fields with dashes between them. Assumes nothing.
use Rattle.std.specs.Prelude.{ℕ, List, [], ◌∷◌, ◌++◌}

-- the byte that stands between fields
abbrev pub dash : ℕ
dash = 45

-- fields with dashes between them
abbrev pub between : List (List ℕ) → List ℕ
between [] = []
between (f ∷ []) = f
between (f ∷ g ∷ fs) = f ++ dash ∷ between (g ∷ fs)
