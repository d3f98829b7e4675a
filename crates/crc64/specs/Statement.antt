-- What each public function promises, for every input. A lent table or byte string is read, and left as it was.
-- Assumes nothing.
use Rattle.std.specs.Prelude.{ℕ, ◌≡◌, List}
use Rattle.crc64.specs.Polynomial.{fold, checksum}
use Rattle.crc64.specs.Table.{swapped, entries, fold_over}

-- the table of a byte at a time
abbrev pub TableIs : List ℕ → Type 0
TableIs r = r ≡ entries 8

abbrev pub FoldOverIs : List ℕ → ℕ → List ℕ → ℕ → Type 0
FoldOverIs table register bytes r = r ≡ fold_over table register bytes

-- the polynomial's own register after the bytes
abbrev pub FoldIs : ℕ → List ℕ → ℕ → Type 0
FoldIs register bytes r = r ≡ fold register bytes

-- the bytes of a number turned round
abbrev pub SwapIs : ℕ → ℕ → Type 0
SwapIs x r = r ≡ swapped 8 x

-- what a checksum is, whichever engine computes it
abbrev pub ChecksumIs : List ℕ → ℕ → Type 0
ChecksumIs bytes r = r ≡ checksum bytes
