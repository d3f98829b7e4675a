-- One turn of the loop over the terms, and one of the loop over the bits of the length. Assumes nothing.
use mathlib.Core.Path.{◌≡◌, refl, sym, ap, ◌∙◌, subst}
use Prim.Native.Nat.{ℕ, zero, suc, ◌+◌, ◌-◌, ◌*◌, ◌/◌, ◌%◌, ◌^◌, ◌≤◌, ◌<◌}
use native.Mathlib.Nat.{zero-mul, mul-zero, one-mul, mul-add, mul_assoc, mul_comm, add_comm, mod-lt, mod-eq_of_lt, div-add-mod'}
use native.Mathlib.Omega.{arith}
use lib.Dec.{lit<}
use lib.Pow.{shr_lt}
use lib.Bits.{bit_xor, xor_zero_r}
use Rattle.crc64.specs.Polynomial.{poly, step, steps}
use Rattle.crc64.proofs.Xor.{xor_assoc}
use Rattle.crc64.proofs.Register.{branch_free, steps_add, steps_lt}
use Rattle.crc64_combine.specs.Stages.{product, where_set}
use Rattle.crc64_combine.proofs.Ring.{power, square, where_set_lem}

-- ---- the step, as the code takes it: no bit stands above the highest

pub top_lt : (r : ℕ) → r < 2 ^ 64 → r / 2 ^ 63 < 2
top_lt r h = shr_lt 1 63 h

pub step_is : (r : ℕ) → r < 2 ^ 64 → bit_xor (r / 2 ^ 63 * poly) (r * 2 % 2 ^ 64) ≡ step r
step_is r h = ap (λ (t : ℕ). bit_xor (t * poly) (r * 2 % 2 ^ 64)) (sym (mod-eq_of_lt (top_lt r h))) ∙ sym (branch_free r)

pub bit_times_lt : (t a : ℕ) → t < 2 → a < 2 ^ 64 → t * a < 2 ^ 64
bit_times_lt zero a ht h = subst (λ (n : ℕ). n < 2 ^ 64) (sym (zero-mul a)) (lit< tt)
bit_times_lt (suc zero) a ht h = subst (λ (n : ℕ). n < 2 ^ 64) (sym (one-mul a)) h
bit_times_lt (suc (suc t)) a ht h = absurd (omega arith)

-- ---- the product

turn_left : (i : ℕ) → i < 64 → 64 - i ≡ suc (64 - (i + 1))
turn_left i h = omega arith

pub term : (sum a b i : ℕ) {c z : ℕ} → i < 64 → c ≡ step a → bit_xor sum (product (64 - i) a b) ≡ z
    → bit_xor (bit_xor sum (b % 2 * a)) (product (64 - (i + 1)) c (b / 2)) ≡ z
unfolding product
term sum a b i h next e =
    xor_assoc sum (b % 2 * a) _
    ∙ ap (λ (x : ℕ). bit_xor sum (bit_xor (b % 2 * a) (product (64 - (i + 1)) x (b / 2)))) next
    ∙ ap (λ (n : ℕ). bit_xor sum (product n a b)) (sym (turn_left i h))
    ∙ e

none_left : (i : ℕ) → 64 ≤ i → 64 - i ≡ 0
none_left i h = omega arith

pub summed : (sum a b i : ℕ) {z : ℕ} → 64 ≤ i → bit_xor sum (product (64 - i) a b) ≡ z → sum ≡ z
unfolding product
summed sum a b i h e = sym (xor_zero_r sum) ∙ ap (λ (n : ℕ). bit_xor sum (product n a b)) (sym (none_left i h)) ∙ e

-- ---- the bits of the length

-- the power is x^e, and e times what is left of the length are the steps still to go
pub record Reached (p l r z : ℕ) : Type 0 where
  pub exponent : ℕ
  pub raised : p ≡ power exponent
  pub fits : r < 2 ^ 64
  pub left : steps (exponent * l) r ≡ z

halved : (e l : ℕ) → e * l ≡ e * (l % 2) + (e + e) * (l / 2)
halved e l =
    ap (λ (n : ℕ). e * n) (sym (div-add-mod' l 2) ∙ add_comm (l / 2 * 2) (l % 2))
    ∙ mul-add e (l % 2) (l / 2 * 2)
    ∙ ap (λ (n : ℕ). e * (l % 2) + n) (ap (λ (n : ℕ). e * n) (mul_comm (l / 2) 2) ∙ sym (mul_assoc e 2 (l / 2)) ∙ ap (λ (n : ℕ). n * (l / 2)) (double e))
  where
    double : (e : ℕ) → e * 2 ≡ e + e
    double e = omega arith

pub squared : {p l r z : ℕ} {p' r' : ℕ} → Reached p l r z → r' ≡ where_set (l % 2) p r → p' ≡ product 64 p p → Reached p' (l / 2) r' z
squared {p} {l} {r} {z} {p'} {r'} at set twice =
    let e : ℕ = at.exponent in
    let there : r' ≡ steps (e * (l % 2)) r =
    set ∙ ap (λ (q : ℕ). where_set (l % 2) q r) at.raised ∙ where_set_lem (l % 2) e r (mod-lt l (lit< tt)) at.fits in
    record {
      exponent = e + e;
      raised = twice ∙ ap (λ (q : ℕ). product 64 q q) at.raised ∙ square e;
      fits = subst (λ (n : ℕ). n < 2 ^ 64) (sym there) (steps_lt (e * (l % 2)) r at.fits);
      left =
          ap (steps ((e + e) * (l / 2))) there
          ∙ sym (steps_add (e * (l % 2)) ((e + e) * (l / 2)) r)
          ∙ ap (λ (n : ℕ). steps n r) (sym (halved e l))
          ∙ at.left;
    }

pub through : {p l r z : ℕ} → l ≡ 0 → Reached p l r z → r ≡ z
unfolding steps
through {r = r} none at = ap (λ (n : ℕ). steps n r) (sym (mul-zero at.exponent) ∙ ap (λ (n : ℕ). at.exponent * n) (sym none)) ∙ at.left

-- x^8 is 256
pub entering : (a length : ℕ) → a < 2 ^ 64 → Reached 256 length a (steps (8 * length) a)
unfolding steps step
entering a length h = record { exponent = 8; raised = refl; fits = h; left = refl }

-- ---- the low bit of what is left

pub even : (n p a : ℕ) → n % 2 ≡ 0 → a ≡ where_set (n % 2) p a
unfolding where_set
even n p a e = ap (λ (t : ℕ). where_set t p a) (sym e)

set : (t p a : ℕ) → (t ≡ 0 → ⊥) → product 64 p a ≡ where_set t p a
unfolding where_set
set zero p a h = absurd (h refl)
set (suc t) p a h = refl

pub odd : (n p a : ℕ) {r : ℕ} → (n % 2 ≡ 0 → ⊥) → r ≡ product 64 p a → r ≡ where_set (n % 2) p a
odd n p a h e = e ∙ set (n % 2) p a h
