-- What each public function promises, for every input. Lent tables and bytes are read, and left as they were. Assumes
-- nothing.
use Rattle.std.specs.Prelude.{ℕ, ◌+◌, ◌*◌, ◌<◌, ◌≡◌, List, ◌∷◌, length, get_or, replicate}
use Rattle.crc64.specs.Polynomial.{fold}
use Rattle.crc64.specs.Statement.{FoldIs}
use Rattle.crc64.specs.Table.{swapped}
use Rattle.crc64_eight.specs.Lent.{eight_tables, fold_lent}

-- one rule for all 2,048 numbers: entry 256k + b is the register, byte-swapped, after the byte b and then k zero bytes
pub record TablesIs (r : List ℕ) : Type 0 where
  pub size : length r ≡ eight_tables
  pub rule : (k b : ℕ) → k < 8 → b < 256 → get_or r (256 * k + b) 0 ≡ swapped 8 (fold 0 (b ∷ replicate k 0))

abbrev pub FoldLentIs : List ℕ → ℕ → List ℕ → ℕ → Type 0
FoldLentIs tables register bytes r = r ≡ fold_lent tables register bytes

abbrev pub ChecksumLentIs : List ℕ → List ℕ → ℕ → Type 0
ChecksumLentIs tables bytes r = r ≡ swapped 8 (fold_lent tables 0 bytes)

-- what the plain engine promises
abbrev pub Fold8Is : ℕ → List ℕ → ℕ → Type 0
Fold8Is register bytes r = FoldIs register bytes r
