-- The fold of digits of w bits into a register, the first of them entering first: a byte is such a digit of 8 bits, a bit one of 1.
-- Of two strings joined, of an exclusive or digit by digit, that it loses nothing of the register, and digits of at most 64 bits at
-- once. Assumes nothing.
use mathlib.Core.Path.{◌≡◌, refl, sym, ap, ap₂, ◌∙◌, subst}
use mathlib.Core.List.{List, [], ◌∷◌, ◌++◌}
use Prim.Native.Nat.{ℕ, zero, suc, ◌+◌, ◌-◌, ◌*◌, ◌/◌, ◌%◌, ◌^◌, ◌≤◌, ◌<◌}
use native.Mathlib.Nat.{zero-mul, mul-zero, mul-suc, mul_assoc, add-mul, add_comm, suc-ne-zero, suc_inj, not-suc-le-zero, sub-add_cancel, eq_of_mul-eq-mul_right}
use native.Mathlib.Omega.{arith}
use lib.ListN.{length, get_or}
use lib.Pow.{pow-add, pow_pos, shl_lt}
use lib.Arith.{digits_lt, digits_div, digits_mod}
use lib.Bits.{bit_xor, xor_zero_r, xor_comm, xor_shifted}
use Rattle.crc64.specs.Polynomial.{step, steps}
use Rattle.crc64.specs.Damage.{xor_bytes}
use Rattle.crc64.proofs.Xor.{xor_assoc, xor_swap, xor_cancel, xor_shl}
use Rattle.crc64.proofs.Register.{step_lt, steps_xor, steps_add, steps_lt, steps_shift, steps_injective}

-- a digit enters at the top of the register, so that its high bit is the first to leave
unfoldable pub fold_digit : ℕ → ℕ → ℕ → ℕ
fold_digit w r d = steps w (bit_xor (d * 2 ^ (64 - w)) r)

unfoldable pub fold_digits : ℕ → ℕ → List ℕ → ℕ
fold_digits w r [] = r
fold_digits w r (d ∷ ds) = fold_digits w (fold_digit w r d) ds

-- each is a number of w bits
abbrev pub Digits : ℕ → List ℕ → Type 0
Digits w ds = (i : ℕ) → get_or ds i 0 < 2 ^ w

-- the number that digits spell, the first of them highest
unfoldable pub spelled : ℕ → List ℕ → ℕ
spelled w [] = 0
spelled w (d ∷ ds) = d * 2 ^ (w * length ds) + spelled w ds

pub tail_digits : (w d : ℕ) (ds : List ℕ) → Digits w (d ∷ ds) → Digits w ds
tail_digits w d ds h i = h (suc i)

pub digits_append : (w r : ℕ) (a b : List ℕ) → fold_digits w r (a ++ b) ≡ fold_digits w (fold_digits w r a) b
unfolding fold_digits
digits_append w r [] b = refl
digits_append w r (x ∷ a) b = digits_append w (fold_digit w r x) a b

-- ---- linear

digit_xor : (w r s x y : ℕ) → fold_digit w (bit_xor r s) (bit_xor x y) ≡ bit_xor (fold_digit w r x) (fold_digit w s y)
unfolding fold_digit
digit_xor w r s x y =
    let top : ℕ = 2 ^ (64 - w) in
    ap (λ (z : ℕ). steps w (bit_xor z (bit_xor r s))) (xor_shl (64 - w) x y)
    ∙ ap (steps w) (xor_swap (x * top) (y * top) r s)
    ∙ steps_xor w (bit_xor (x * top) r) (bit_xor (y * top) s)

pub digits_xor : (w r s : ℕ) (a b : List ℕ) → length a ≡ length b
    → fold_digits w (bit_xor r s) (xor_bytes a b) ≡ bit_xor (fold_digits w r a) (fold_digits w s b)
unfolding fold_digits xor_bytes
digits_xor w r s [] [] e = refl
digits_xor w r s [] (y ∷ b) e = absurd (suc-ne-zero _ (sym e))
digits_xor w r s (x ∷ a) [] e = absurd (suc-ne-zero _ e)
digits_xor w r s (x ∷ a) (y ∷ b) e =
    ap (λ (z : ℕ). fold_digits w z (xor_bytes a b)) (digit_xor w r s x y) ∙ digits_xor w (fold_digit w r x) (fold_digit w s y) a b (suc_inj e)

-- what a register brings along, and what the digits do, apart
digit_apart : (w r d : ℕ) → fold_digit w r d ≡ bit_xor (fold_digit w 0 d) (steps w r)
unfolding fold_digit
digit_apart w r d =
    steps_xor w (d * 2 ^ (64 - w)) r
    ∙ ap (λ (z : ℕ). bit_xor (steps w z) (steps w r)) (sym (xor_zero_r (d * 2 ^ (64 - w))))

pub digits_apart : (w r : ℕ) (ds : List ℕ) → fold_digits w r ds ≡ bit_xor (fold_digits w 0 ds) (steps (w * length ds) r)
unfolding fold_digits steps
digits_apart w r [] = ap (λ (n : ℕ). steps n r) (sym (mul-zero w))
digits_apart w r (d ∷ ds) =
    let rest : ℕ = w * length ds in
    digits_apart w (fold_digit w r d) ds
    ∙ ap (λ (z : ℕ). bit_xor (fold_digits w 0 ds) (steps rest z)) (digit_apart w r d)
    ∙ ap (λ (z : ℕ). bit_xor (fold_digits w 0 ds) z) (steps_xor rest (fold_digit w 0 d) (steps w r))
    ∙ sym (xor_assoc (fold_digits w 0 ds) (steps rest (fold_digit w 0 d)) (steps rest (steps w r)))
    ∙ ap₂ bit_xor
    (sym (digits_apart w (fold_digit w 0 d) ds))
    (sym (steps_add w rest r) ∙ ap (λ (n : ℕ). steps n r) (add_comm w rest ∙ sym (mul-suc w (length ds))))

digit_in_64 : (w r d : ℕ) → 0 < w → fold_digit w r d < 2 ^ 64
unfolding fold_digit steps
digit_in_64 zero r d some = absurd (not-suc-le-zero some)
digit_in_64 (suc w) r d some = let x : ℕ = bit_xor (d * 2 ^ (64 - suc w)) r in steps_lt w (step x) (step_lt x)

pub digits_in_64 : (w r : ℕ) (ds : List ℕ) → 0 < w → r < 2 ^ 64 → fold_digits w r ds < 2 ^ 64
unfolding fold_digits
digits_in_64 w r [] some h = h
digits_in_64 w r (d ∷ ds) some h = digits_in_64 w (fold_digit w r d) ds some (digit_in_64 w r d some)

-- nothing of the register is lost
pub digits_injective : (w : ℕ) (ds : List ℕ) {r s : ℕ} → r < 2 ^ 64 → s < 2 ^ 64 → fold_digits w r ds ≡ fold_digits w s ds → r ≡ s
digits_injective w ds {r} {s} hr hs e =
    steps_injective (w * length ds) hr hs (xor_cancel (fold_digits w 0 ds) (sym (digits_apart w r ds) ∙ e ∙ digits_apart w s ds))

-- ---- digits of at most 64 bits at once: m is what they leave free of the register

pub pow_digit : (w k : ℕ) → 2 ^ (w * suc k) ≡ 2 ^ w * 2 ^ (w * k)
pow_digit w k = ap (λ (n : ℕ). 2 ^ n) (mul-suc w k ∙ add_comm (w * k) w) ∙ pow-add 2 w (w * k)

pub spelled_lt : (w : ℕ) (ds : List ℕ) → Digits w ds → spelled w ds < 2 ^ (w * length ds)
unfolding spelled
spelled_lt w [] h = pow_pos (w * 0)
spelled_lt w (d ∷ ds) h =
    subst (λ (x : ℕ). spelled w (d ∷ ds) < x) (sym (pow_digit w (length ds))) (digits_lt (h 0) (spelled_lt w ds (tail_digits w d ds h)))

-- one digit in front of k that leave w + m free
module _ (w m k d x : ℕ) (narrow : w ≤ 64) (free : w * k + m ≡ 64 - w) (h : x < 2 ^ (w * k)) where
  abbrev top : ℕ
  top = 64 - w

  below : x * 2 ^ m < 2 ^ top
  below = subst (λ (n : ℕ). x * 2 ^ m < 2 ^ n) free (shl_lt (w * k) m h)

  beside : bit_xor (d * 2 ^ top) (x * 2 ^ m) ≡ (d * 2 ^ (w * k) + x) * 2 ^ m
  beside =
      xor_shifted d top (x * 2 ^ m) below
      ∙ ap (λ (n : ℕ). d * 2 ^ n + x * 2 ^ m) (sym free)
      ∙ ap (λ (y : ℕ). d * y + x * 2 ^ m) (pow-add 2 (w * k) m)
      ∙ ap (λ (y : ℕ). y + x * 2 ^ m) (sym (mul_assoc d (2 ^ (w * k)) (2 ^ m)))
      ∙ sym (add-mul (d * 2 ^ (w * k)) x (2 ^ m))

  inside : x * 2 ^ m * 2 ^ w < 2 ^ 64
  inside = subst (λ (n : ℕ). x * 2 ^ m * 2 ^ w < 2 ^ n) (sub-add_cancel narrow) (shl_lt top w below)

  shifted : steps w (x * 2 ^ m) ≡ x * 2 ^ (m + w)
  shifted = steps_shift w (x * 2 ^ m) inside ∙ mul_assoc x (2 ^ m) (2 ^ w) ∙ ap (λ (y : ℕ). x * y) (sym (pow-add 2 m w))

  -- the digit folded in before what the k digits do
  in_front : bit_xor (steps (w * k) (x * 2 ^ (m + w))) (steps (w * k) (fold_digit w 0 d)) ≡ steps (w * suc k) ((d * 2 ^ (w * k) + x) * 2 ^ m)
  unfolding fold_digit
  in_front =
      xor_comm (steps (w * k) (x * 2 ^ (m + w))) (steps (w * k) (fold_digit w 0 d))
      ∙ ap (λ (y : ℕ). bit_xor (steps (w * k) (fold_digit w 0 d)) (steps (w * k) y)) (sym shifted)
      ∙ sym (steps_xor (w * k) (fold_digit w 0 d) (steps w (x * 2 ^ m)))
      ∙ ap (λ (y : ℕ). steps (w * k) (bit_xor (steps w y) (steps w (x * 2 ^ m)))) (xor_zero_r (d * 2 ^ top))
      ∙ ap (steps (w * k)) (sym (steps_xor w (d * 2 ^ top) (x * 2 ^ m)))
      ∙ sym (steps_add w (w * k) (bit_xor (d * 2 ^ top) (x * 2 ^ m)))
      ∙ ap₂ steps (add_comm w (w * k) ∙ sym (mul-suc w k)) beside

-- what one digit more leaves free, and that it is no wider than the register
freed : (w p m : ℕ) → p + w + m ≡ 64 → p + (m + w) ≡ 64
freed w p m e = omega arith

left_of : (w p m : ℕ) → p + w + m ≡ 64 → p + m ≡ 64 - w
left_of w p m e = omega arith

narrow_of : (w p m : ℕ) → p + w + m ≡ 64 → w ≤ 64
narrow_of w p m e = omega arith

digits_once_zero : (w m : ℕ) (ds : List ℕ) → w * length ds + m ≡ 64 → Digits w ds
    → fold_digits w 0 ds ≡ steps (w * length ds) (spelled w ds * 2 ^ m)
unfolding fold_digits spelled steps
digits_once_zero w m [] e h = sym (ap₂ steps (mul-zero w) (zero-mul (2 ^ m)))
digits_once_zero w m (d ∷ ds) e h =
    let k : ℕ = length ds in
    let apart : w * k + w + m ≡ 64 = ap (λ (n : ℕ). n + m) (sym (mul-suc w k)) ∙ e in
    let rest : Digits w ds = tail_digits w d ds h in
    digits_apart w (fold_digit w 0 d) ds
    ∙ ap (λ (z : ℕ). bit_xor z (steps (w * k) (fold_digit w 0 d))) (digits_once_zero w (m + w) ds (freed w (w * k) m apart) rest)
    ∙ in_front w m k d (spelled w ds) (narrow_of w (w * k) m apart) (left_of w (w * k) m apart) (spelled_lt w ds rest)

-- folding digits of at most 64 bits is xoring them in at once, the first at the top, and stepping
pub digits_once : (w m r : ℕ) (ds : List ℕ) → w * length ds + m ≡ 64 → Digits w ds
    → fold_digits w r ds ≡ steps (w * length ds) (bit_xor (spelled w ds * 2 ^ m) r)
digits_once w m r ds e h =
    digits_apart w r ds
    ∙ ap (λ (z : ℕ). bit_xor z (steps (w * length ds) r)) (digits_once_zero w m ds e h)
    ∙ sym (steps_xor (w * length ds) (spelled w ds * 2 ^ m) r)

-- ---- the number that digits spell tells them

pub spelled_injective : (w : ℕ) (a b : List ℕ) → length a ≡ length b → Digits w a → Digits w b → spelled w a ≡ spelled w b → a ≡ b
unfolding spelled
spelled_injective w [] [] e ha hb same = refl
spelled_injective w [] (y ∷ b) e ha hb same = absurd (suc-ne-zero _ (sym e))
spelled_injective w (x ∷ a) [] e ha hb same = absurd (suc-ne-zero _ e)
spelled_injective w (x ∷ a) (y ∷ b) e ha hb same =
    let P = 2 ^ (w * length a) in
    let even = sym (suc_inj e) in
    let joined : x * P + spelled w a ≡ y * P + spelled w b = same ∙ ap (λ (k : ℕ). y * 2 ^ (w * k) + spelled w b) even in
    let low-a : spelled w a < P = spelled_lt w a (tail_digits w x a ha) in
    let low-b : spelled w b < P = subst (λ (k : ℕ). spelled w b < 2 ^ (w * k)) even (spelled_lt w b (tail_digits w y b hb)) in
    let first : x ≡ y = sym (digits_div x low-a) ∙ ap (λ (z : ℕ). z / P) joined ∙ digits_div y low-b in
    let rest : spelled w a ≡ spelled w b = sym (digits_mod x low-a) ∙ ap (λ (z : ℕ). z % P) joined ∙ digits_mod y low-b in
    ap₂ (λ (z : ℕ) (s : List ℕ). z ∷ s) first (spelled_injective w a b (suc_inj e) (tail_digits w x a ha) (tail_digits w y b hb) rest)

-- digits of at most 64 bits are told by what they make of any register
zero_injective : (w m : ℕ) (a b : List ℕ) → w * length a + m ≡ 64 → length a ≡ length b → Digits w a → Digits w b
    → fold_digits w 0 a ≡ fold_digits w 0 b → a ≡ b
zero_injective w m a b free e ha hb same =
    let free-b : w * length b + m ≡ 64 = ap (λ (k : ℕ). w * k + m) (sym e) ∙ free in
    let top-a : spelled w a * 2 ^ m < 2 ^ 64 = subst (λ (n : ℕ). spelled w a * 2 ^ m < 2 ^ n) free (shl_lt (w * length a) m (spelled_lt w a ha)) in
    let top-b : spelled w b * 2 ^ m < 2 ^ 64 = subst (λ (n : ℕ). spelled w b * 2 ^ m < 2 ^ n) free-b (shl_lt (w * length b) m (spelled_lt w b hb)) in
    let stepped : steps (w * length a) (spelled w a * 2 ^ m) ≡ steps (w * length a) (spelled w b * 2 ^ m) =
    sym (digits_once_zero w m a free ha) ∙ same ∙ digits_once_zero w m b free-b hb ∙ ap (λ (k : ℕ). steps (w * k) (spelled w b * 2 ^ m)) (sym e) in
    spelled_injective w a b e ha hb (eq_of_mul-eq-mul_right (2 ^ m) (pow_pos m) _ _ (steps_injective (w * length a) top-a top-b stepped))

filled : (n : ℕ) → n ≤ 64 → n + (64 - n) ≡ 64
filled n h = omega arith

pub stretch_injective : (w r : ℕ) (a b : List ℕ) → w * length a ≤ 64 → length a ≡ length b → Digits w a → Digits w b
    → fold_digits w r a ≡ fold_digits w r b → a ≡ b
stretch_injective w r a b few e ha hb same =
    let brought : ℕ = steps (w * length a) r in
    zero_injective w (64 - w * length a) a b (filled (w * length a) few) e ha hb
    (xor_cancel brought
    (xor_comm brought (fold_digits w 0 a) ∙ sym (digits_apart w r a) ∙ same ∙ digits_apart w r b
    ∙ ap (λ (k : ℕ). bit_xor (fold_digits w 0 b) (steps (w * k) r)) (sym e) ∙ xor_comm (fold_digits w 0 b) brought))
