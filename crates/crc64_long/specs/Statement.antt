-- What the public function promises, for every register and all bytes. Lent bytes are read, and left as they were.
-- Assumes nothing.
use Rattle.std.specs.Prelude.{ℕ, List}
use Rattle.crc64_fast.specs.Statement.{FoldHeldIs}

-- what the engine for short strings promises
abbrev pub FoldLongIs : ℕ → List ℕ → ℕ → Type 0
FoldLongIs register bytes r = FoldHeldIs register bytes r
