-- The checksum, from its polynomial. Document 01: "Register of 64 bits, start 0. Each byte is folded in one bit at a
-- time, high bit first, under the polynomial 0xe543279765927881 (top term implied). No final xor. The checksum is the
-- register itself." Assumes nothing.
use Rattle.std.specs.Prelude.{ℕ, zero, suc, ◌*◌, ◌/◌, ◌%◌, ◌^◌, List, [], ◌∷◌}
use Rattle.std.specs.Int.Bits.{bit_xor}
use Rattle.words.specs.Decide.{pick, ◌=?◌}

abbrev pub poly : ℕ
poly = 0xe543_2797_6592_7881

-- the register shifted by one place: the bit at the top leaves
abbrev pub shifted : ℕ → ℕ
shifted r = r * 2 % 2 ^ 64

-- that bit
abbrev pub top_bit : ℕ → ℕ
top_bit r = r / 2 ^ 63 % 2

-- one bit: shift, test the bit that left at the top, and xor the polynomial in where it was set
unfoldable pub step : ℕ → ℕ
step r = pick (top_bit r =? 1) (bit_xor (shifted r) poly) (shifted r)

unfoldable pub steps : ℕ → ℕ → ℕ
steps zero r = r
steps (suc k) r = steps k (step r)

-- a byte enters at the top of the register, so that its high bit is the first to leave
unfoldable pub fold_byte : ℕ → ℕ → ℕ
fold_byte r b = steps 8 (bit_xor (b * 2 ^ 56) r)

unfoldable pub fold : ℕ → List ℕ → ℕ
fold r [] = r
fold r (b ∷ bs) = fold (fold_byte r b) bs

abbrev pub checksum : List ℕ → ℕ
checksum bs = fold 0 bs
