-- What the private stages of printing write. Nobody has to believe it: contracts of private functions cite it.
-- Assumes nothing.
use Rattle.std.specs.Prelude.{ℕ, List, [], ◌∷◌, ◌++◌}
use Rattle.numerals.specs.Statement.{hex}
use Rattle.guid_text.specs.Fields.{dash}

-- a field with its dash behind it
abbrev pub dashed : ℕ → List ℕ
dashed w = hex w ++ dash ∷ []
