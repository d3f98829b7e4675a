-- The checksum of a joined to b, from theirs. Document 02, A8: "an operation that takes the checksums of a and b and
-- b's length and gives the checksum of a joined to b without the bytes". Assumes nothing.
use Rattle.std.specs.Prelude.{ℕ, ◌*◌}
use Rattle.std.specs.Int.Bits.{bit_xor}
use Rattle.crc64.specs.Polynomial.{steps}

-- a step is a product with x, so a is taken times x^(8·length), modulo the polynomial, and b is xored in
unfoldable pub combined : ℕ → ℕ → ℕ → ℕ
combined a b length = bit_xor (steps (8 * length) a) b
