-- The bytes of a number in reverse order: linear, in as many bits, and twice is nothing. Assumes nothing.
use mathlib.Core.Path.{◌≡◌, refl, sym, ap, ap₂, ◌∙◌, subst}
use Prim.Native.Nat.{ℕ, zero, suc, ◌+◌, ◌*◌, ◌/◌, ◌%◌, ◌^◌, ◌<◌}
use native.Mathlib.Nat.{zero-add, zero-mul, mul-suc, mul_assoc, mod-lt, div-add-mod', div-lt_iff_lt-mul, mul-div_cancel, mul-mod_left, mul-add-div_right, mul-add-mod_self_right}
use native.Mathlib.Omega.{arith}
use lib.Dec.{lit<}
use lib.Arith.{lt-one, digits_lt}
use lib.Pow.{pow_pos, pow-add}
use lib.Bits.{bit_xor, xor_shr, xor_mod, xor_block}
use Rattle.crc64.specs.Table.{swapped}
use Rattle.crc64.proofs.Folding.{pow_byte}

pow_byte_right : (k : ℕ) → 2 ^ (8 * suc k) ≡ 2 ^ (8 * k) * 256
pow_byte_right k = ap (λ (n : ℕ). 2 ^ n) (mul-suc 8 k) ∙ pow-add 2 (8 * k) 8

pub swapped_lt : (k x : ℕ) → swapped k x < 2 ^ (8 * k)
unfolding swapped
swapped_lt zero x = pow_pos 0
swapped_lt (suc k) x =
    subst (λ (n : ℕ). swapped (suc k) x < n) (sym (pow_byte k)) (digits_lt (mod-lt x (lit< tt)) (swapped_lt k (x / 256)))

pub swapped_xor : (k x y : ℕ) → swapped k (bit_xor x y) ≡ bit_xor (swapped k x) (swapped k y)
unfolding swapped
swapped_xor zero x y = refl
swapped_xor (suc k) x y =
    ap₂ (λ (b r : ℕ). b * 2 ^ (8 * k) + swapped k r) (xor_mod x y 8) (xor_shr x y 8)
    ∙ ap (λ (r : ℕ). bit_xor (x % 256) (y % 256) * 2 ^ (8 * k) + r) (swapped_xor k (x / 256) (y / 256))
    ∙ sym (xor_block (8 * k) (x % 256) (y % 256) (swapped k (x / 256)) (swapped k (y / 256)) (swapped_lt k (x / 256)) (swapped_lt k (y / 256)))

below_byte : (k x : ℕ) → x < 2 ^ (8 * suc k) → x / 256 < 2 ^ (8 * k)
below_byte k x h = (div-lt_iff_lt-mul (lit< tt)).1 (subst (λ (n : ℕ). x < n) (pow_byte_right k) h)

-- the byte at the top becomes the lowest
pub swapped_top : (k t x : ℕ) → t < 256 → x < 2 ^ (8 * k) → swapped (suc k) (t * 2 ^ (8 * k) + x) ≡ swapped k x * 256 + t
unfolding swapped
swapped_top zero t x ht hx = omega arith
swapped_top (suc k) t x ht hx =
    let whole : t * 2 ^ (8 * suc k) + x ≡ t * 2 ^ (8 * k) * 256 + x =
    ap (λ (n : ℕ). t * n + x) (pow_byte_right k) ∙ ap (λ (n : ℕ). n + x) (sym (mul_assoc t (2 ^ (8 * k)) 256)) in
    ap₂ (λ (b r : ℕ). b * 2 ^ (8 * suc k) + swapped (suc k) r)
    (ap (λ (n : ℕ). n % 256) whole ∙ mul-add-mod_self_right (t * 2 ^ (8 * k)) 256 x)
    (ap (λ (n : ℕ). n / 256) whole ∙ mul-add-div_right (lit< tt) (t * 2 ^ (8 * k)) x)
    ∙ ap₂ (λ (n r : ℕ). x % 256 * n + r) (pow_byte_right k) (swapped_top k t (x / 256) ht (below_byte k x hx))
    ∙ omega (arith, mul_assoc (x % 256) (2 ^ (8 * k)) 256)

pub swapped_twice : (k x : ℕ) → x < 2 ^ (8 * k) → swapped k (swapped k x) ≡ x
unfolding swapped
swapped_twice zero x h = sym (lt-one h)
swapped_twice (suc k) x h =
    swapped_top k (x % 256) (swapped k (x / 256)) (mod-lt x (lit< tt)) (swapped_lt k (x / 256))
    ∙ ap (λ (y : ℕ). y * 256 + x % 256)
    (swapped_twice k (x / 256) (below_byte k x h))
    ∙ div-add-mod' x 256

-- an empty lowest byte
pub swapped_shifted : (k x : ℕ) → swapped (suc k) (x * 256) ≡ swapped k x
unfolding swapped
swapped_shifted k x =
    ap₂ (λ (b r : ℕ). b * 2 ^ (8 * k) + swapped k r) (mul-mod_left x 256) (mul-div_cancel x (lit< tt))
    ∙ ap (λ (n : ℕ). n + swapped k x) (zero-mul (2 ^ (8 * k)))
    ∙ zero-add (swapped k x)
