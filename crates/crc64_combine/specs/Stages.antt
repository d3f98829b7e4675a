-- What the contracts of the private functions cite: nobody has to believe it. A register is a polynomial, bit i its
-- term x^i. Assumes nothing.
use Rattle.std.specs.Prelude.{ℕ, zero, suc, ◌*◌, ◌/◌, ◌%◌}
use Rattle.std.specs.Int.Bits.{bit_xor}
use Rattle.crc64.specs.Polynomial.{step}

-- a times the k low terms of b: the sum, over the terms x^i of b, of a gone i steps
unfoldable pub product : ℕ → ℕ → ℕ → ℕ
product zero a b = 0
product (suc k) a b = bit_xor (b % 2 * a) (product k (step a) (b / 2))

-- the product with a power where a bit is set
unfoldable pub where_set : ℕ → ℕ → ℕ → ℕ
where_set zero p a = a
where_set (suc _) p a = product 64 p a
