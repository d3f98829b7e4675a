-- What each public function promises, for every register and all bytes. Lent bytes are read, and left as they were.
-- Assumes nothing.
use Rattle.std.specs.Prelude.{ℕ, ◌≡◌, List}
use Rattle.words.specs.Statement.{Leaves}
use Rattle.crc64.specs.Polynomial.{fold}
use Rattle.crc64.specs.Statement.{FoldIs}
use Rattle.crc64.specs.Table.{swapped}

-- a register that is held byte-swapped, after the bytes
abbrev pub FoldHeldIs : ℕ → List ℕ → ℕ → Type 0
FoldHeldIs register bytes r = r ≡ swapped 8 (fold (swapped 8 register) bytes)

-- what the plain engine promises
abbrev pub FoldFastIs : ℕ → List ℕ → ℕ → Type 0
FoldFastIs register bytes r = FoldIs register bytes r

-- r is the register after the bytes, whether or not they have the room; the output that held `before` holds them over
-- its front where they have it, else what it held
pub record Copies (register : ℕ) (bytes before : List ℕ) (r : ℕ) (after : List ℕ) : Type 0 where
  pub folded : FoldHeldIs register bytes r
  pub copied : Leaves bytes before after
