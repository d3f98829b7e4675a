-- What is xored into the front of a string adds to its fold. Assumes nothing.
use mathlib.Core.Path.{◌≡◌, refl, sym, ap, ap₂, ◌∙◌}
use mathlib.Core.List.{List, [], ◌∷◌, ◌++◌}
use Prim.Native.Nat.{ℕ, zero, suc, ◌+◌, ◌-◌, ◌*◌, ◌^◌, ◌≤◌, ◌<◌}
use native.Mathlib.Nat.{sub-zero, suc-sub-suc, not-suc-le-zero, le_of_suc-le-suc}
use native.Mathlib.Omega.{arith}
use lib.ListN.{length}
use lib.Bits.{bit_xor, xor_comm}
use Rattle.crc64.specs.Polynomial.{steps, fold_byte, fold}
use Rattle.crc64.specs.Damage.{xor_bytes}
use Rattle.crc64.proofs.Xor.{xor_assoc}
use Rattle.crc64.proofs.Register.{steps_xor}
use Rattle.crc64.proofs.Folding.{fold_apart, fold_xor}
use Rattle.crc64_sparse.specs.Stages.{xor_front}

pub fold_more : (q r : ℕ) (s : List ℕ) → fold (bit_xor q r) s ≡ bit_xor (steps (8 * length s) q) (fold r s)
fold_more q r s =
    let n : ℕ = 8 * length s in
    fold_apart (bit_xor q r) s
    ∙ ap (λ (z : ℕ). bit_xor (fold 0 s) z) (steps_xor n q r)
    ∙ xor_comm (fold 0 s) (bit_xor (steps n q) (steps n r))
    ∙ xor_assoc (steps n q) (steps n r) (fold 0 s)
    ∙ ap (λ (z : ℕ). bit_xor (steps n q) z) (xor_comm (steps n r) (fold 0 s) ∙ sym (fold_apart r s))

byte_xor : (q r x y : ℕ) → fold_byte (bit_xor q r) (bit_xor x y) ≡ bit_xor (fold_byte q x) (fold_byte r y)
unfolding fold xor_bytes
byte_xor q r x y = fold_xor q r (x ∷ []) (y ∷ []) refl

pub fold_front : (q r : ℕ) (p s : List ℕ) → length p ≤ length s
    → fold (bit_xor q r) (xor_front p s) ≡ bit_xor (steps (8 * (length s - length p)) (fold q p)) (fold r s)
unfolding fold xor_front
fold_front q r [] s h = fold_more q r s ∙ ap (λ (n : ℕ). bit_xor (steps (8 * n) q) (fold r s)) (sym (sub-zero (length s)))
fold_front q r (x ∷ p) [] h = absurd (not-suc-le-zero h)
fold_front q r (x ∷ p) (y ∷ s) h =
    ap (λ (z : ℕ). fold z (xor_front p s)) (byte_xor q r x y)
    ∙ fold_front (fold_byte q x) (fold_byte r y) p s (le_of_suc-le-suc h)
    ∙ ap (λ (n : ℕ). bit_xor (steps (8 * n) (fold (fold_byte q x) p)) (fold (fold_byte r y) s)) (sym (suc-sub-suc (length s) (length p)))

pub length_front : (p s : List ℕ) → length (xor_front p s) ≡ length s
unfolding xor_front
length_front [] s = refl
length_front (x ∷ p) [] = refl
length_front (x ∷ p) (y ∷ s) = ap suc (length_front p s)
