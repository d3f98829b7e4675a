-- Runs of hex digits. Assumes nothing.
use Rattle.std.specs.Prelude.{ℕ, ◌+◌, ◌*◌, ◌≤◌, List, [], ◌∷◌}
use Rattle.words.specs.Text.{digit_of}

-- every element is a digit
abbrev pub Digits : List ℕ → Type 0
Digits [] = Unit {0}
Digits (b ∷ ds) = (digit_of b ≤ 15) × Digits ds

-- the number that digits spell behind n
unfoldable pub value : ℕ → List ℕ → ℕ
value n [] = n
value n (b ∷ ds) = value (n * 16 + digit_of b) ds
