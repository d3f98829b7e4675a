-- The checksum's promises with one word changed: each of these is false, and a witness shows it. Assumes nothing.
use Prim.Native.Nat.{ℕ, zero, suc, ◌≤◌}
use mathlib.Core.Path.{◌≡◌, refl}
use mathlib.Core.List.{List, [], ◌∷◌, ◌++◌}
use native.Mathlib.Omega.{arith}
use lib.Bits.{bit_xor}
use lib.Dec.{lit<}
use lib.ListN.{length, replicate}
use Rattle.words.specs.Word.{Bytes}
use Rattle.crc64.specs.Polynomial.{step, steps, fold_byte, fold}
use Rattle.crc64.specs.Damage.{Damaged, xor_bytes}
use Rattle.crc64.specs.Statement.{ChecksumIs}
use Rattle.crc64.specs.Table.{swapped}
use Rattle.crc64_combine.specs.Combined.{combined}
use Rattle.crc64_combine.specs.Statement.{CombineIs}
use Rattle.checksum.specs.declared.Crc64.{Crc64}
use Rattle.checksum.specs.Statement.{UpdateIs}
use Rattle.promises.specs.BitRuns.{bits}
use Rattle.promises.proofs.BitRuns.{bits_65_unseen}

-- ones have no checksum of 0
pub not_of_ones : ((count r : ℕ) → ChecksumIs (replicate count 1) r → r ≡ 0) → ⊥
unfolding fold fold_byte steps step
not_of_ones law =
    let told : ◌≡◌ {A = ℕ} 0xe543_2797_6592_7881 0 = law 1 0xe543_2797_6592_7881 refl in
    absurd (omega arith)

-- the order of the stretches counts
pub not_in_any_order : ((before between after : Crc64) (a b : List ℕ) → UpdateIs before a between → UpdateIs between b after → UpdateIs before (b ++ a) after) → ⊥
unfolding swapped fold fold_byte steps step
not_in_any_order law =
    let held : ℕ → Crc64 = λ r. record { register = r } in
    let told : ◌≡◌ {A = ℕ} 0x9e9e_9d73_69c8_15c3 0x3a2e_56ba_a141_a1d9 =
    law (held 0) (held 0x8178_9265_9727_43e5) (held 0x9e9e_9d73_69c8_15c3) (1 ∷ []) (2 ∷ []) refl refl in
    absurd (omega arith)

-- the lengths must be equal
pub not_of_any_lengths : ((a b : List ℕ) (sumA sumB sum : ℕ) → ChecksumIs a sumA → ChecksumIs b sumB → ChecksumIs (xor_bytes a b) sum → sum ≡ bit_xor sumA sumB) → ⊥
unfolding xor_bytes fold fold_byte steps step
not_of_any_lengths law =
    let told : ◌≡◌ {A = ℕ} 0 0xe543_2797_6592_7881 = law (1 ∷ []) [] 0xe543_2797_6592_7881 0 0 refl refl refl in
    absurd (omega arith)

-- the length is that of the second string
pub not_by_the_first_length : ((a b : List ℕ) (sumA sumB sum : ℕ) → ChecksumIs a sumA → ChecksumIs b sumB → CombineIs sumA sumB (length a) sum → ChecksumIs (a ++ b) sum) → ⊥
unfolding combined fold fold_byte steps step
not_by_the_first_length law =
    let told : ◌≡◌ {A = ℕ} 0xecd0_a0d0_dd2b_171d 0xe543_2797_6592_7881 =
    law (1 ∷ []) [] 0xe543_2797_6592_7881 0 0xecd0_a0d0_dd2b_171d refl refl refl in
    absurd (omega arith)

-- what stands behind the first stretch is as long as both others
pub not_by_one_length : ((a b c m n ab left bc right : ℕ) → CombineIs a b m ab → CombineIs ab c n left → CombineIs b c n bc → CombineIs a bc m right → left ≡ right) → ⊥
unfolding combined steps step
not_by_one_length law =
    let told : ◌≡◌ {A = ℕ} 256 1 = law 1 0 0 0 1 1 256 0 1 refl refl refl refl in
    absurd (omega arith)

zero_bytes : (n : ℕ) → Bytes (replicate n 0)
zero_bytes zero i = lit< tt
zero_bytes (suc n) zero = lit< tt
zero_bytes (suc n) (suc i) = zero_bytes n i

-- 65 bits are not seen
pub not_65 : ((a b : List ℕ) (from count sumA sumB : ℕ) → Bytes a → Bytes b → count ≤ 65 → Damaged from count (bits a) (bits b)
    → ChecksumIs a sumA → ChecksumIs b sumB → sumA ≡ sumB → ⊥) → ⊥
unfolding fold fold_byte steps step
not_65 law =
    let nine : List ℕ = replicate 9 0 in
    let unseen = bits_65_unseen nine 0 (zero_bytes 9) (omega arith) in
    law nine unseen.other 0 65 0 0 (zero_bytes 9) unseen.are_bytes (omega arith) unseen.damaged refl (unseen.same_checksum 0 refl) refl
