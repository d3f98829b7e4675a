-- Examples of what `combine` gives, as computed tests. Strings of 2^61 bytes take too many steps to compute, so the test computes
-- the squarings, as many as the length has bits, which are proved to give the same. Assumes nothing.
use mathlib.Core.Path.{◌≡◌, refl, ap, ◌∙◌}
use Prim.Native.Nat.{ℕ, zero, suc, ◌-◌, ◌/◌, ◌%◌, ◌^◌, ◌<◌}
use lib.Dec.{lit<}
use lib.Arith.{lt-one}
use lib.Bits.{bit_xor}
use Rattle.crc64.specs.Polynomial.{step, steps}
use Rattle.crc64_combine.specs.Combined.{combined}
use Rattle.crc64_combine.specs.Statement.{CombineIs}
use Rattle.crc64_combine.specs.Stages.{product, where_set}
use Rattle.crc64_combine.proofs.Ring.{half_lt}
use Rattle.crc64_combine.proofs.Loops.{Reached, entering, squared, through}

unfoldable squarings : ℕ → ℕ → ℕ → ℕ → ℕ
squarings zero p l r = r
squarings (suc k) p l r = squarings k (product 64 p p) (l / 2) (where_set (l % 2) p r)

squarings_reach : (k : ℕ) {p l r z : ℕ} → l < 2 ^ k → Reached p l r z → squarings k p l r ≡ z
unfolding squarings
squarings_reach zero h at = through (lt-one h) at
squarings_reach (suc k) {l = l} h at = squarings_reach k (half_lt k l h) (squared at refl refl)

-- k is the number of bits that the length has
by_squaring : (k a b length : ℕ) {z : ℕ} → a < 2 ^ 64 → length < 2 ^ k → z ≡ bit_xor (squarings k 256 length a) b → CombineIs a b length z
unfolding combined
by_squaring k a b length ha h e = e ∙ ap (λ (x : ℕ). bit_xor x b) (squarings_reach k h (entering a length ha))

-- the checksums of 01 and of 02 give that of 01 02
pub two_bytes : CombineIs 0xe543_2797_6592_7881 0x2fc5_68b9_aeb6_8983 1 0xc315_c869_739d_9e9e
unfolding combined steps step
two_bytes = refl

pub no_byte : CombineIs 1 0 0 1
unfolding combined steps step
no_byte = refl

pub one_byte : CombineIs 1 0 1 0x100
unfolding combined steps step
one_byte = refl

pub eight_bytes : CombineIs 1 0 8 0xe543_2797_6592_7881
unfolding combined steps step
eight_bytes = refl

pub two_to_the_32 : CombineIs 1 0 (2 ^ 32) 0xf87a_b5f3_675a_1590
unfolding squarings product where_set step
two_to_the_32 = by_squaring 33 1 0 (2 ^ 32) (lit< tt) (lit< tt) refl

pub two_to_the_61 : CombineIs 1 0 (2 ^ 61) 2
unfolding squarings product where_set step
two_to_the_61 = by_squaring 62 1 0 (2 ^ 61) (lit< tt) (lit< tt) refl

pub two_to_the_63 : CombineIs 1 0 (2 ^ 63) 0x10
unfolding squarings product where_set step
two_to_the_63 = by_squaring 64 1 0 (2 ^ 63) (lit< tt) (lit< tt) refl

pub longest : CombineIs 1 0 (2 ^ 64 - 1) 1
unfolding squarings product where_set step
longest = by_squaring 64 1 0 (2 ^ 64 - 1) (lit< tt) (lit< tt) refl

pub longest_of_ones : CombineIs 0xffff_ffff_ffff_ffff 0x0123_4567_89ab_cdef (2 ^ 64 - 1) 0xfedc_ba98_7654_3210
unfolding squarings product where_set step
longest_of_ones = by_squaring 64 0xffff_ffff_ffff_ffff 0x0123_4567_89ab_cdef (2 ^ 64 - 1) (lit< tt) (lit< tt) refl
