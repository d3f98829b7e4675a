-- The table and the fold over it, as the code works: the register is held byte-swapped. Document 01: "The table is
-- 256 numbers, byte-swapped, derived from that one polynomial". Assumes nothing.
use Rattle.std.specs.Prelude.{ℕ, zero, suc, ◌+◌, ◌*◌, ◌/◌, ◌%◌, ◌^◌, List, [], ◌∷◌, get_or}
use Rattle.std.specs.Int.Bits.{bit_xor}
use Rattle.crc64.specs.Polynomial.{steps}

-- the k low bytes of x in reverse order
unfoldable pub swapped : ℕ → ℕ → ℕ
swapped zero x = 0
swapped (suc k) x = x % 256 * 2 ^ (8 * k) + swapped k (x / 256)

-- what the byte k becomes in n steps from the top of an empty register
unfoldable pub entry : ℕ → ℕ → ℕ
entry n k = swapped 8 (steps n (k * 2 ^ 56))

-- `count` entries, from that of the byte `from` on
unfoldable pub entries_from : ℕ → ℕ → ℕ → List ℕ
entries_from n from zero = []
entries_from n from (suc count) = entry n from ∷ entries_from n (suc from) count

-- a table over the number of steps: a byte at a time wants 8
unfoldable pub entries : ℕ → List ℕ
entries n = entries_from n 0 256

-- one byte, over any table of 256
unfoldable pub turn : List ℕ → ℕ → ℕ → ℕ
turn t r b = bit_xor (get_or t (bit_xor r b % 256) 0) (r / 256)

unfoldable pub fold_over : List ℕ → ℕ → List ℕ → ℕ
fold_over t r [] = r
fold_over t r (b ∷ bs) = fold_over t (turn t r b) bs
