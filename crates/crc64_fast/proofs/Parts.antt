-- The bytes of a number in reverse order, in two parts: the n low bytes and the j above them. Assumes nothing.
use mathlib.Core.Path.{◌≡◌, refl, sym, ap, ap₂, ◌∙◌}
use mathlib.Core.List.{List}
use Prim.Native.Nat.{ℕ, zero, suc, ◌+◌, ◌*◌, ◌/◌, ◌%◌, ◌^◌, ◌<◌}
use native.Mathlib.Nat.{zero-mul, zero-add, add-zero, suc-add, add_comm, add_assoc, add-mul, mul-add, mul-suc, mul_assoc, mul-mod_left, div-one, div-eq_of_lt}
use native.Mathlib.Omega.{arith}
use lib.ListN.{get_or}
use lib.Arith.{digits_div, digits_mod}
use lib.Pow.{pow-add, shl-shr, shr-shr, field, mod-mod-pow}
use Rattle.words.specs.Word.{word, Bytes}
use Rattle.crc64.specs.Table.{swapped}

pub swapped_zero : (k : ℕ) → swapped k 0 ≡ 0
unfolding swapped
swapped_zero zero = refl
swapped_zero (suc k) = ap₂ (λ (a b : ℕ). a + b) (zero-mul (2 ^ (8 * k))) (swapped_zero k)

-- the low part goes to the top
pub parts : (n j x : ℕ) → swapped (n + j) x ≡ swapped n x * 2 ^ (8 * j) + swapped j (x / 2 ^ (8 * n))
unfolding swapped
parts zero j x =
    ap₂ swapped (zero-add j) (sym (div-one x))
    ∙ sym (zero-add (swapped j (x / 1)))
    ∙ ap (λ (z : ℕ). z + swapped j (x / 1)) (sym (zero-mul (2 ^ (8 * j))))
parts (suc n) j x =
    let low : ℕ = x % 256 in
    let rest : ℕ = swapped n (x / 256) in
    let high : ℕ = swapped j (x / 2 ^ (8 * suc n)) in
    let above : swapped j (x / 256 / 2 ^ (8 * n)) ≡ high =
    ap (swapped j) (shr-shr x 8 (8 * n) ∙ ap (λ (e : ℕ). x / 2 ^ e) (add_comm 8 (8 * n) ∙ sym (mul-suc 8 n))) in
    ap (λ (k : ℕ). swapped k x) (suc-add n j)
    ∙ ap₂ (λ (a b : ℕ). low * a + b)
    (ap (λ (e : ℕ). 2 ^ e) (mul-add 8 n j) ∙ pow-add 2 (8 * n) (8 * j))
    (parts n j (x / 256) ∙ ap (λ (z : ℕ). rest * 2 ^ (8 * j) + z) above)
    ∙ sym (add_assoc (low * (2 ^ (8 * n) * 2 ^ (8 * j))) (rest * 2 ^ (8 * j)) high)
    ∙ ap (λ (z : ℕ). z + rest * 2 ^ (8 * j) + high) (sym (mul_assoc low (2 ^ (8 * n)) (2 ^ (8 * j))))
    ∙ ap (λ (z : ℕ). z + high) (sym (add-mul (low * 2 ^ (8 * n)) rest (2 ^ (8 * j))))

-- only the k low bytes count
low_bytes : (k x : ℕ) → swapped k (x % 2 ^ (8 * k)) ≡ swapped k x
unfolding swapped
low_bytes zero x = refl
low_bytes (suc k) x =
    ap (λ (e : ℕ). swapped (suc k) (x % 2 ^ e)) (mul-suc 8 k)
    ∙ ap₂ (λ (a b : ℕ). a * 2 ^ (8 * k) + swapped k b) (mod-mod-pow x (8 * k) 8) (field x (8 * k) 8)
    ∙ ap (λ (z : ℕ). x % 256 * 2 ^ (8 * k) + z) (low_bytes k (x / 256))

-- the n low bytes moved up by j places are all that is left of a number in n + j bytes
pub moved : (n j y : ℕ) → swapped (j + n) (y * 2 ^ (8 * j) % 2 ^ (8 * n + 8 * j)) ≡ swapped n y
moved n j y =
    let up : ℕ = y * 2 ^ (8 * j) in
    let x : ℕ = up % 2 ^ (8 * n + 8 * j) in
    let empty : swapped j x ≡ 0 =
    sym (low_bytes j x) ∙ ap (swapped j) (mod-mod-pow up (8 * n) (8 * j) ∙ mul-mod_left y (2 ^ (8 * j))) ∙ swapped_zero j in
    let back : x / 2 ^ (8 * j) ≡ y % 2 ^ (8 * n) =
    field up (8 * n) (8 * j) ∙ ap (λ (z : ℕ). z % 2 ^ (8 * n)) (shl-shr y (8 * j)) in
    parts j n x
    ∙ ap₂ (λ (a b : ℕ). a * 2 ^ (8 * n) + swapped n b) empty back
    ∙ ap (λ (z : ℕ). z + swapped n (y % 2 ^ (8 * n))) (zero-mul (2 ^ (8 * n)))
    ∙ zero-add (swapped n (y % 2 ^ (8 * n)))
    ∙ low_bytes n y

-- a number of j bytes, turned round in j + n
pub lifted : (n j h : ℕ) → h < 2 ^ (8 * j) → swapped (j + n) h ≡ swapped j h * 2 ^ (8 * n)
lifted n j h below =
    parts j n h
    ∙ ap (λ (z : ℕ). swapped j h * 2 ^ (8 * n) + z) (ap (swapped n) (div-eq_of_lt below) ∙ swapped_zero n)
    ∙ add-zero (swapped j h * 2 ^ (8 * n))

-- ---- a word that is longer than what is taken of it

in_front : (k b v : ℕ) → b < 256 → swapped (suc k) (b + 256 * v) ≡ b * 2 ^ (8 * k) + swapped k v
unfolding swapped
in_front k b v h =
    let turned : b + 256 * v ≡ v * 256 + b = omega arith in
    ap₂ (λ (x y : ℕ). x * 2 ^ (8 * k) + swapped k y)
    (ap (λ (z : ℕ). z % 256) turned ∙ digits_mod v h)
    (ap (λ (z : ℕ). z / 256) turned ∙ digits_div v h)

pub longer : (n j : ℕ) (s : List ℕ) (at : ℕ) → Bytes s → swapped n (word (n + j) s at) ≡ swapped n (word n s at)
unfolding word swapped
longer zero j s at hs = refl
longer (suc n) j s at hs =
    let b : ℕ = get_or s at 0 in
    ap (λ (k : ℕ). swapped (suc n) (word k s at)) (suc-add n j)
    ∙ in_front n b (word (n + j) s (at + 1)) (hs at)
    ∙ ap (λ (z : ℕ). b * 2 ^ (8 * n) + z) (longer n j s (at + 1) hs)
    ∙ sym (in_front n b (word n s (at + 1)) (hs at))
