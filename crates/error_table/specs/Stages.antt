-- What private functions hand on; nobody has to believe it. Assumes nothing.
use Rattle.std.specs.Prelude.{ℕ, ◌<◌, ◌≡◌, Option, Some, None}

-- the first of n, which is a number below n; or none, which is n itself
abbrev pub FindsFirst : ℕ → ℕ → Option ℕ → Type 0
FindsFirst n found (Some i) = (i ≡ found) × (i < n)
FindsFirst n found None = found ≡ n
