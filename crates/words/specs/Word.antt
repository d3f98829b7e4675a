-- Little-endian words. Document 01: all integers on the wire are little-endian.
-- A byte past the end of a list counts as 0, so that every offset has a word. Assumes nothing.
use Rattle.std.specs.Prelude.{ℕ, zero, suc, ◌+◌, ◌*◌, ◌/◌, ◌%◌, ◌<◌, List, [], ◌∷◌, get_or}

-- the number that the k bytes of s from `at` on spell, lowest byte first
unfoldable pub word : ℕ → List ℕ → ℕ → ℕ
word zero s at = 0
word (suc k) s at = get_or s at 0 + 256 * word k s (at + 1)

-- the k lowest bytes of n, lowest first
unfoldable pub bytes_of : ℕ → ℕ → List ℕ
bytes_of zero n = []
bytes_of (suc k) n = n % 256 ∷ bytes_of k (n / 256)

-- each element is a byte
abbrev pub Bytes : List ℕ → Type 0
Bytes s = (i : ℕ) → get_or s i 0 < 256
