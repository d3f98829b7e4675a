-- The product of registers: with a power it is so many steps, and the square of x^n is x^(2n). No law of commuting is wanted: the
-- power always stands first. Assumes nothing.
use mathlib.Core.Path.{◌≡◌, refl, sym, ap, ap₂, ◌∙◌, subst}
use Prim.Native.Nat.{ℕ, zero, suc, ◌+◌, ◌*◌, ◌/◌, ◌%◌, ◌^◌, ◌≤◌, ◌<◌}
use native.Mathlib.Nat.{zero-mul, mul-zero, mul-one, one-mul, lt_of_lt_of_le, mod-lt, div-add-mod'}
use native.Mathlib.Numerals.{add-one}
use native.Mathlib.Omega.{arith}
use lib.Dec.{lit<}
use lib.Arith.{lt-one}
use lib.Pow.{pow_mono, shl_lt, shr_lt}
use lib.Bits.{bit_xor, xor_comm, xor_shifted}
use Rattle.crc64.specs.Polynomial.{step, steps}
use Rattle.crc64.proofs.Register.{steps_xor, steps_add, steps_lt, steps_shift}
use Rattle.crc64_combine.specs.Stages.{product, where_set}

-- ---- steps pass through the product

pub steps_zero : (n : ℕ) → steps n 0 ≡ 0
unfolding steps step
steps_zero zero = refl
steps_zero (suc n) = steps_zero n

bit_steps : (n t a : ℕ) → t < 2 → t * steps n a ≡ steps n (t * a)
bit_steps n zero a h = zero-mul (steps n a) ∙ sym (steps_zero n) ∙ ap (steps n) (sym (zero-mul a))
bit_steps n (suc zero) a h = one-mul (steps n a) ∙ ap (steps n) (sym (one-mul a))
bit_steps n (suc (suc t)) a h = absurd (omega arith)

one_step : (n a : ℕ) → step (steps n a) ≡ steps n (step a)
unfolding steps
one_step zero a = refl
one_step (suc n) a = one_step n (step a)

pub product_steps : (k n a b : ℕ) → product k (steps n a) b ≡ steps n (product k a b)
unfolding product
product_steps zero n a b = sym (steps_zero n)
product_steps (suc k) n a b =
    ap₂ bit_xor
    (bit_steps n (b % 2) a (mod-lt b (lit< tt)))
    (ap (λ (z : ℕ). product k z (b / 2)) (one_step n a) ∙ product_steps k n (step a) (b / 2))
    ∙ sym (steps_xor n (b % 2 * a) (product k (step a) (b / 2)))

-- ---- 1 is the unit

pub half_lt : (k b : ℕ) → b < 2 ^ suc k → b / 2 < 2 ^ k
half_lt k b h = shr_lt k 1 (subst (λ (n : ℕ). b < 2 ^ n) (sym (add-one k)) h)

pub product_one : (k b : ℕ) → k ≤ 64 → b < 2 ^ k → product k 1 b ≡ b
unfolding product steps
product_one zero b hk h = sym (lt-one h)
product_one (suc k) b hk h =
    let low : b / 2 < 2 ^ 63 = lt_of_lt_of_le (half_lt k b h) (pow_mono {i = k} {j = 63} (omega arith)) in
    ap₂ bit_xor (mul-one (b % 2)) (product_steps k 1 1 (b / 2) ∙ ap (steps 1) (product_one k (b / 2) (omega arith) (half_lt k b h)) ∙ steps_shift 1 (b / 2) (shl_lt 63 1 low))
    ∙ xor_comm (b % 2) (b / 2 * 2)
    ∙ xor_shifted (b / 2) 1 (b % 2) (mod-lt b (lit< tt))
    ∙ div-add-mod' b 2

-- ---- powers

-- x^n
abbrev pub power : ℕ → ℕ
power n = steps n 1

pub product_power : (n a : ℕ) → a < 2 ^ 64 → product 64 (power n) a ≡ steps n a
product_power n a h = product_steps 64 n 1 a ∙ ap (steps n) (product_one 64 a (omega arith) h)

pub power_lt : (n : ℕ) → power n < 2 ^ 64
power_lt n = steps_lt n 1 (lit< tt)

pub square : (n : ℕ) → product 64 (power n) (power n) ≡ power (n + n)
square n = product_power n (power n) (power_lt n) ∙ sym (steps_add n n 1)

pub where_set_lem : (t n a : ℕ) → t < 2 → a < 2 ^ 64 → where_set t (power n) a ≡ steps (n * t) a
unfolding where_set steps
where_set_lem zero n a ht h = ap (λ (k : ℕ). steps k a) (sym (mul-zero n))
where_set_lem (suc zero) n a ht h = product_power n a h ∙ ap (λ (k : ℕ). steps k a) (sym (mul-one n))
where_set_lem (suc (suc t)) n a ht h = absurd (omega arith)
