-- The fold of bytes into a register, which is that of digits of eight bits: of two strings joined, of a byte-wise xor, its bound, that
-- it loses nothing of the register, and at most eight bytes at once. Assumes nothing.
use mathlib.Core.Path.{◌≡◌, refl, sym, ap, ap₂, ◌∙◌, subst}
use mathlib.Core.List.{List, [], ◌∷◌, ◌++◌}
use Prim.Native.Nat.{ℕ, suc, ◌+◌, ◌*◌, ◌^◌, ◌<◌}
use lib.Dec.{lit<}
use lib.ListN.{length}
use lib.Bits.{bit_xor}
use Rattle.words.specs.Word.{Bytes}
use Rattle.crc64.specs.Polynomial.{step, steps, fold_byte, fold}
use Rattle.crc64.specs.Damage.{xor_bytes}
use Rattle.crc64.proofs.Register.{step_lt, steps_lt}
use Rattle.crc64.proofs.Digits.{fold_digit, fold_digits, spelled, digits_append, digits_xor, digits_apart, digits_in_64, digits_once, pow_digit}

pub fold_digits_lem : (r : ℕ) (s : List ℕ) → fold r s ≡ fold_digits 8 r s
unfolding fold fold_byte fold_digits fold_digit
fold_digits_lem r [] = refl
fold_digits_lem r (b ∷ s) = fold_digits_lem (fold_byte r b) s

-- folding a and then b is folding a joined to b
pub fold_append : (r : ℕ) (a b : List ℕ) → fold r (a ++ b) ≡ fold (fold r a) b
fold_append r a b =
    fold_digits_lem r (a ++ b) ∙ digits_append 8 r a b ∙ ap (λ (z : ℕ). fold_digits 8 z b) (sym (fold_digits_lem r a)) ∙ sym (fold_digits_lem (fold r a) b)

pub fold_xor : (r s : ℕ) (a b : List ℕ) → length a ≡ length b → fold (bit_xor r s) (xor_bytes a b) ≡ bit_xor (fold r a) (fold s b)
fold_xor r s a b e =
    fold_digits_lem (bit_xor r s) (xor_bytes a b) ∙ digits_xor 8 r s a b e ∙ sym (ap₂ bit_xor (fold_digits_lem r a) (fold_digits_lem s b))

-- what a register brings along, and what the bytes do, apart
pub fold_apart : (r : ℕ) (bs : List ℕ) → fold r bs ≡ bit_xor (fold 0 bs) (steps (8 * length bs) r)
fold_apart r bs =
    fold_digits_lem r bs ∙ digits_apart 8 r bs ∙ ap (λ (z : ℕ). bit_xor z (steps (8 * length bs) r)) (sym (fold_digits_lem 0 bs))

-- ---- in 64 bits

pub byte_lt : (r b : ℕ) → fold_byte r b < 2 ^ 64
unfolding fold_byte steps
byte_lt r b = steps_lt 7 (step (bit_xor (b * 2 ^ 56) r)) (step_lt (bit_xor (b * 2 ^ 56) r))

pub fold_lt : (r : ℕ) (bs : List ℕ) → r < 2 ^ 64 → fold r bs < 2 ^ 64
fold_lt r bs h = subst (λ (x : ℕ). x < 2 ^ 64) (sym (fold_digits_lem r bs)) (digits_in_64 8 r bs (lit< tt) h)

-- ---- nothing of the register is lost

-- ---- at most eight bytes at once: m is what they leave free of the register

pub tail_bytes : (b : ℕ) (bs : List ℕ) → Bytes (b ∷ bs) → Bytes bs
tail_bytes b bs h i = h (suc i)

pub pow_byte : (k : ℕ) → 2 ^ (8 * suc k) ≡ 2 ^ 8 * 2 ^ (8 * k)
pow_byte = pow_digit 8

-- the number that bytes spell, the first of them highest
abbrev pub big_endian : List ℕ → ℕ
big_endian bs = spelled 8 bs

-- folding at most eight bytes is xoring them in at once, the first at the top, and stepping
pub at_once : (m r : ℕ) (bs : List ℕ) → 8 * length bs + m ≡ 64 → Bytes bs → fold r bs ≡ steps (8 * length bs) (bit_xor (big_endian bs * 2 ^ m) r)
at_once m r bs e h = fold_digits_lem r bs ∙ digits_once 8 m r bs e h
