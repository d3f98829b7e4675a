-- What the public function promises, for every number. Assumes nothing.
use Rattle.std.specs.Prelude.{ℕ, ◌≡◌}
use Rattle.crc64.specs.Polynomial.{steps}
use Rattle.crc64.specs.Table.{swapped}

-- 256 steps of a register that is held byte-swapped
abbrev pub FarIs : ℕ → ℕ → Type 0
FarIs x r = r ≡ swapped 8 (steps 256 (swapped 8 x))
