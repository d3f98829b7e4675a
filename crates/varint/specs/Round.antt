-- What was written is read back. Assumes nothing.
use Rattle.std.specs.Prelude.{ℕ, ◌+◌, ◌<◌, ◌≡◌, List, length, get_or}

-- the elements ws stand in s from `at` on
abbrev pub Stands : List ℕ → List ℕ → ℕ → Type 0
Stands ws s at = (i : ℕ) → i < length ws → get_or s (at + i) 0 ≡ get_or ws i 0
