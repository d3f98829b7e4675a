-- What the public function promises, for every number. Assumes nothing.
use Rattle.std.specs.Prelude.{ℕ, ◌≡◌}
use Rattle.crc64.specs.Polynomial.{steps}
use Rattle.crc64.specs.Table.{swapped}

-- 64 steps of a register that is held byte-swapped
abbrev pub NearIs : ℕ → ℕ → Type 0
NearIs x r = r ≡ swapped 8 (steps 64 (swapped 8 x))
