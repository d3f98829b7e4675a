-- What the public function promises, for every input. Assumes nothing.
use Rattle.std.specs.Prelude.{ℕ, ◌≡◌}
use Rattle.crc64_combine.specs.Combined.{combined}

abbrev pub CombineIs : ℕ → ℕ → ℕ → ℕ → Type 0
CombineIs a b length r = r ≡ combined a b length
