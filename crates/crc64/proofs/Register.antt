-- The step of the register: it wants no test, is linear, leaves a register of 64 bits, and loses nothing. Assumes nothing.
use mathlib.Core.Path.{◌≡◌, refl, sym, ap, ap₂, ◌∙◌, subst}
use Prim.Native.Nat.{ℕ, zero, suc, ◌+◌, ◌*◌, ◌/◌, ◌%◌, ◌^◌, ◌<◌}
use native.Mathlib.Nat.{mod-lt, mul-mod_left, mod-eq_of_lt, div-eq_of_lt, div-lt_iff_lt-mul, mul-one, zero-mul, mul_assoc, pow-succ', suc-add, zero-add, le-mul_of_pos_right}
use native.Mathlib.Omega.{arith}
use lib.Dec.{lit<}
use lib.Pow.{mod-mod-pow, pow_pos}
use lib.Bits.{bit_xor, xor_shr, xor_mod, xor_lt, xor_self, xor_comm, xor_zero_r}
use Rattle.words.specs.Decide.{pick, ◌=?◌}
use Rattle.crc64.specs.Polynomial.{poly, shifted, top_bit, step, steps}
use Rattle.crc64.proofs.Xor.{xor_swap, xor_zero_eq, xor_shl}

no_bit : {t : ℕ} → suc (suc t) < 2 → ⊥
no_bit h = omega arith

top_lt : (r : ℕ) → top_bit r < 2
top_lt r = mod-lt (r / 2 ^ 63) (lit< tt)

shifted_lt : (r : ℕ) → shifted r < 2 ^ 64
shifted_lt r = mod-lt (r * 2) (lit< tt)

-- ---- without a test

choice : (t x : ℕ) → t < 2 → pick (t =? 1) (bit_xor x poly) x ≡ bit_xor (t * poly) x
choice zero x h = refl
choice (suc zero) x h = xor_comm x poly
choice (suc (suc t)) x h = absurd (no_bit h)

-- the polynomial times the bit that left is xored in, whichever it was: the form in which the step is linear at sight
pub branch_free : (r : ℕ) → step r ≡ bit_xor (top_bit r * poly) (shifted r)
unfolding step
branch_free r = choice (top_bit r) (shifted r) (top_lt r)

-- ---- linear

-- a bit times a number is the number or nothing
bit_times : (p x y : ℕ) → x < 2 → y < 2 → bit_xor x y * p ≡ bit_xor (x * p) (y * p)
bit_times p zero y hx hy = ap (λ (z : ℕ). bit_xor z (y * p)) (sym (zero-mul p))
bit_times p (suc zero) zero hx hy = sym (ap (λ (z : ℕ). bit_xor (1 * p) z) (zero-mul p) ∙ xor_zero_r (1 * p))
bit_times p (suc zero) (suc zero) hx hy = zero-mul p ∙ sym (xor_self (1 * p))
bit_times p (suc zero) (suc (suc y)) hx hy = absurd (no_bit hy)
bit_times p (suc (suc x)) y hx hy = absurd (no_bit hx)

top_bit_lem : (a b : ℕ) → top_bit (bit_xor a b) ≡ bit_xor (top_bit a) (top_bit b)
top_bit_lem a b = ap (λ (x : ℕ). x % 2) (xor_shr a b 63) ∙ xor_mod (a / 2 ^ 63) (b / 2 ^ 63) 1

shifted_xor : (a b : ℕ) → shifted (bit_xor a b) ≡ bit_xor (shifted a) (shifted b)
shifted_xor a b = ap (λ (x : ℕ). x % 2 ^ 64) (xor_shl 1 a b) ∙ xor_mod (a * 2) (b * 2) 64

pub step_xor : (a b : ℕ) → step (bit_xor a b) ≡ bit_xor (step a) (step b)
step_xor a b =
    branch_free (bit_xor a b)
    ∙ ap₂ bit_xor
    (ap (λ (x : ℕ). x * poly) (top_bit_lem a b) ∙ bit_times poly (top_bit a) (top_bit b) (top_lt a) (top_lt b))
    (shifted_xor a b)
    ∙ xor_swap (top_bit a * poly) (top_bit b * poly) (shifted a) (shifted b)
    ∙ sym (ap₂ bit_xor (branch_free a) (branch_free b))

pub steps_xor : (k a b : ℕ) → steps k (bit_xor a b) ≡ bit_xor (steps k a) (steps k b)
unfolding steps
steps_xor zero a b = refl
steps_xor (suc k) a b = ap (steps k) (step_xor a b) ∙ steps_xor k (step a) (step b)

pub steps_add : (j k r : ℕ) → steps (j + k) r ≡ steps k (steps j r)
unfolding steps
steps_add zero k r = ap (λ (n : ℕ). steps n r) (zero-add k)
steps_add (suc j) k r = ap (λ (n : ℕ). steps n r) (suc-add j k) ∙ steps_add j k (step r)

-- ---- in 64 bits

times_lt : (t : ℕ) → t < 2 → t * poly < 2 ^ 64
times_lt zero h = lit< tt
times_lt (suc zero) h = lit< tt
times_lt (suc (suc t)) h = absurd (no_bit h)

pub step_lt : (r : ℕ) → step r < 2 ^ 64
step_lt r =
    subst (λ (x : ℕ). x < 2 ^ 64) (sym (branch_free r))
    (xor_lt 64 (top_bit r * poly) (shifted r) (times_lt (top_bit r) (top_lt r)) (shifted_lt r))

pub steps_lt : (k r : ℕ) → r < 2 ^ 64 → steps k r < 2 ^ 64
unfolding steps
steps_lt zero r h = h
steps_lt (suc k) r h = steps_lt k (step r) (step_lt r)

-- ---- a shift, where nothing leaves at the top

double_lt : (r : ℕ) → r < 2 ^ 63 → r * 2 < 2 ^ 64
double_lt r h = omega arith

step_small : (r : ℕ) → r < 2 ^ 63 → step r ≡ r * 2
unfolding step
step_small r h =
    ap₂ (λ (x y : ℕ). pick ((x % 2) =? 1) (bit_xor y poly) y) (div-eq_of_lt h) (mod-eq_of_lt (double_lt r h))

pub steps_shift : (k r : ℕ) → r * 2 ^ k < 2 ^ 64 → steps k r ≡ r * 2 ^ k
unfolding steps
steps_shift zero r h = sym (mul-one r)
steps_shift (suc k) r h =
    let double : r * 2 ^ suc k ≡ r * 2 * 2 ^ k = ap (λ (x : ℕ). r * x) (pow-succ' 2 k) ∙ sym (mul_assoc r 2 (2 ^ k)) in
    ap (steps k) (step_small r (omega (arith, double, le-mul_of_pos_right (r * 2) (pow_pos k))))
    ∙ steps_shift k (r * 2) (omega (arith, double))
    ∙ sym double

-- ---- nothing is lost: the polynomial is odd, so the low bit of a step tells the bit that left

double_zero : (r : ℕ) → 0 ≡ r * 2 → r ≡ 0
double_zero r e = omega arith

zero_by_top : (r t : ℕ) → r < 2 ^ 64 → t < 2 → top_bit r ≡ t → t * poly ≡ shifted r → r ≡ 0
zero_by_top r zero h ht top e =
    let below : r / 2 ^ 63 < 2 = (div-lt_iff_lt-mul {k = 2 ^ 63} (lit< tt)).1 h in
    let small : r < 2 ^ 63 = (div-lt_iff_lt-mul {k = 2 ^ 63} {y = 1} (lit< tt)).0 (omega (arith, mod-eq_of_lt below)) in
    double_zero r (e ∙ mod-eq_of_lt (double_lt r small))
zero_by_top r (suc zero) h ht top e =
    let odd : ◌≡◌ {A = ℕ} 1 0 = ap (λ (x : ℕ). x % 2) e ∙ mod-mod-pow (r * 2) 63 1 ∙ mul-mod_left r 2 in
    absurd (omega arith)
zero_by_top r (suc (suc t)) h ht top e = absurd (no_bit ht)

step_zero : (r : ℕ) → r < 2 ^ 64 → step r ≡ 0 → r ≡ 0
step_zero r h e = zero_by_top r (top_bit r) h (top_lt r) refl (xor_zero_eq (sym (branch_free r) ∙ e))

pub step_injective : {a b : ℕ} → a < 2 ^ 64 → b < 2 ^ 64 → step a ≡ step b → a ≡ b
step_injective {a} {b} ha hb e =
    xor_zero_eq (step_zero (bit_xor a b) (xor_lt 64 a b ha hb) (step_xor a b ∙ ap (λ (x : ℕ). bit_xor (step a) x) (sym e) ∙ xor_self (step a)))

pub steps_injective : (k : ℕ) {a b : ℕ} → a < 2 ^ 64 → b < 2 ^ 64 → steps k a ≡ steps k b → a ≡ b
unfolding steps
steps_injective zero ha hb e = e
steps_injective (suc k) {a} {b} ha hb e = step_injective ha hb (steps_injective k (step_lt a) (step_lt b) e)
