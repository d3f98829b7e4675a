-- The identity: computed at 1, and by linearity everywhere. Assumes nothing.
use mathlib.Core.Path.{◌≡◌, refl, sym, ap, ap₂, ◌∙◌}
use mathlib.Core.List.{List, [], ◌∷◌}
use Prim.Native.Nat.{ℕ, zero, suc, ◌+◌, ◌*◌, ◌/◌, ◌%◌, ◌^◌, ◌≤◌, ◌<◌}
use native.Mathlib.Nat.{zero-mul, one-mul, mul-zero, mul-add, mod-lt}
use native.Mathlib.Omega.{arith}
use lib.Dec.{lit<}
use lib.Bits.{bit_xor, xor_zero_r}
use Rattle.crc64.specs.Polynomial.{step, steps}
use Rattle.crc64.proofs.Xor.{xor_swap}
use Rattle.crc64.proofs.Register.{step_xor, steps_add}
use Rattle.crc64_combine.specs.Stages.{product}
use Rattle.crc64_combine.proofs.Ring.{product_steps, product_one}
use Rattle.crc64_sparse.specs.Stages.{span, places, spread}

bit_xor_lem : (t a b : ℕ) → t < 2 → t * bit_xor a b ≡ bit_xor (t * a) (t * b)
bit_xor_lem zero a b h = zero-mul (bit_xor a b) ∙ sym (ap₂ (λ (x y : ℕ). bit_xor x y) (zero-mul a) (zero-mul b))
bit_xor_lem (suc zero) a b h = one-mul (bit_xor a b) ∙ sym (ap₂ (λ (x y : ℕ). bit_xor x y) (one-mul a) (one-mul b))
bit_xor_lem (suc (suc t)) a b h = absurd (omega arith)

product_xor : (k a b c : ℕ) → product k (bit_xor a b) c ≡ bit_xor (product k a c) (product k b c)
unfolding product
product_xor zero a b c = refl
product_xor (suc k) a b c =
    ap₂ bit_xor
    (bit_xor_lem (c % 2) a b (mod-lt c (lit< tt)))
    (ap (λ (z : ℕ). product k z (c / 2)) (step_xor a b) ∙ product_xor k (step a) (step b) (c / 2))
    ∙ xor_swap (c % 2 * a) (c % 2 * b) (product k (step a) (c / 2)) (product k (step b) (c / 2))

product_zero : (k c : ℕ) → product k 0 c ≡ 0
unfolding product step
product_zero zero c = refl
product_zero (suc k) c = ap (λ (z : ℕ). bit_xor z (product k 0 (c / 2))) (mul-zero (c % 2)) ∙ product_zero k (c / 2)

spread_product : (es : List ℕ) (a c : ℕ) → spread es (product 64 a c) ≡ product 64 (spread es a) c
unfolding spread
spread_product [] a c = sym (product_zero 64 c)
spread_product (e ∷ es) a c =
    ap₂ bit_xor (sym (product_steps 64 (8 * e) a c)) (spread_product es a c)
    ∙ sym (product_xor 64 (steps (8 * e) a) (spread es a) c)

-- computed, each power from the one before it
unfoldable ladder : List ℕ → ℕ → ℕ
ladder [] c = 0
ladder (g ∷ gs) c = bit_xor (steps (8 * g) c) (ladder gs (steps (8 * g) c))

unfoldable rungs : ℕ → List ℕ → List ℕ
rungs e [] = []
rungs e (g ∷ gs) = (e + g) ∷ rungs (e + g) gs

climbed : (e : ℕ) (gs : List ℕ) (c : ℕ) → ladder gs (steps (8 * e) c) ≡ spread (rungs e gs) c
unfolding ladder rungs spread
climbed e [] c = refl
climbed e (g ∷ gs) c =
    let there : steps (8 * g) (steps (8 * e) c) ≡ steps (8 * (e + g)) c = sym (steps_add (8 * e) (8 * g) c) ∙ ap (λ (n : ℕ). steps n c) (sym (mul-add 8 e g)) in
    ap (λ (z : ℕ). bit_xor z (ladder gs z)) there ∙ ap (bit_xor (steps (8 * (e + g)) c)) (climbed (e + g) gs c)

gaps : List ℕ
gaps = 0 ∷ 236 ∷ 20 ∷ 497 ∷ 427 ∷ 130 ∷ 246 ∷ []

low : ladder gaps 1 ≡ 0x3195_1ea5_8e89_5eeb
unfolding gaps ladder steps step
low = refl

high : steps (8 * span) 1 ≡ 0x3195_1ea5_8e89_5eeb
unfolding steps step
high = refl

at_one : spread places 1 ≡ steps (8 * span) 1
unfolding gaps rungs steps
at_one = sym (climbed 0 gaps 1) ∙ low ∙ sym high

pub identity : (c : ℕ) → c < 2 ^ 64 → spread places c ≡ steps (8 * span) c
identity c h =
    let one : product 64 1 c ≡ c = product_one 64 c (omega arith) h in
    ap (spread places) (sym one)
    ∙ spread_product places 1 c
    ∙ ap (λ (z : ℕ). product 64 z c) at_one
    ∙ product_steps 64 (8 * span) 1 c
    ∙ ap (steps (8 * span)) one
