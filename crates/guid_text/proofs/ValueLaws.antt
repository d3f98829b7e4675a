-- Laws of hex digits as numbers: the value of a digit and of a run of digits, and their spelling. Assumes nothing.
use mathlib.Core.Path.{◌≡◌, refl, sym, ◌∙◌, ap}
use mathlib.Core.List.{List, [], ◌∷◌, ◌++◌, map, append-nil, append_assoc}
use mathlib.Core.Logic.{⊎_elim}
use Prim.Native.Nat.{ℕ, zero, suc, ◌+◌, ◌-◌, ◌*◌, ◌/◌, ◌%◌, ◌^◌, ◌<◌, ◌≤◌}
use native.Mathlib.Nat.{pow-succ', pow-le-pow_right, mul-le-mul_right, add-zero, eq-or-lt_of_le}
use native.Mathlib.Omega.{arith}
use borrow.Author.Tests.{lt-ltb, le-ltb, ne_eqb}
use lib.Dec.{ltb}
use lib.ListN.{length}
use Rattle.words.specs.Decide.{pick}
use Rattle.words.specs.Text.{digit, spelled, digit_of}
use Rattle.numerals.specs.Statement.{hex}
use Rattle.guid_text.specs.Digits.{Digits, value}
use Rattle.guid_text.specs.Fields.{dash}
use Rattle.guid_text.specs.Normal.{lower, shorn}
use Rattle.guid_text.specs.WithPlus.{plus}
use Rattle.numerals.proofs.Cases.{lt_or_le, same_or_other}
use Rattle.numerals.proofs.SpelledLaws.{spelled_none, spelled_one, spelled_more}

-- the three runs of digits
pub data DigitByte (b : ℕ) : Type 0 where
  number : 48 ≤ b → b < 58 → digit_of b ≡ b - 48 → DigitByte b
  capital : 65 ≤ b → b < 71 → digit_of b ≡ b - 55 → DigitByte b
  letter : 97 ≤ b → b < 103 → digit_of b ≡ b - 87 → DigitByte b

module _ (b : ℕ) where
  below_48 : b < 48 → digit_of b ≡ 16
  unfolding digit_of
  below_48 h = rw (lt-ltb b 48 h)

  number_value : 48 ≤ b → b < 58 → digit_of b ≡ b - 48
  unfolding digit_of
  number_value l h = rw (le-ltb b 48 l, lt-ltb b 58 h)

  below_65 : 58 ≤ b → b < 65 → digit_of b ≡ 16
  unfolding digit_of
  below_65 l h = let m : 48 ≤ b = omega arith in rw (le-ltb b 48 m, le-ltb b 58 l, lt-ltb b 65 h)

  capital_value_lem : 65 ≤ b → b < 71 → digit_of b ≡ b - 55
  unfolding digit_of
  capital_value_lem l h =
      let m : 48 ≤ b = omega arith in
      let n : 58 ≤ b = omega arith in
      rw (le-ltb b 48 m, le-ltb b 58 n, le-ltb b 65 l, lt-ltb b 71 h)

  module _ (past : 71 ≤ b) where
    from_71 : digit_of b ≡ pick (ltb b 97) 16 (pick (ltb b 103) (b - 87) 16)
    unfolding digit_of
    from_71 =
        let m : 48 ≤ b = omega arith in
        let n : 58 ≤ b = omega arith in
        let o : 65 ≤ b = omega arith in
        rw (le-ltb b 48 m, le-ltb b 58 n, le-ltb b 65 o, le-ltb b 71 past)

    below_97 : b < 97 → digit_of b ≡ 16
    below_97 h = from_71 ∙ rw (lt-ltb b 97 h)

    letter_value : 97 ≤ b → b < 103 → digit_of b ≡ b - 87
    letter_value l h = from_71 ∙ rw (le-ltb b 97 l, lt-ltb b 103 h)

    above : 103 ≤ b → digit_of b ≡ 16
    above l = from_71 ∙ let m : 97 ≤ b = omega arith in rw (le-ltb b 97 m, le-ltb b 103 l)

  pub digit_byte : digit_of b ≤ 15 → DigitByte b
  digit_byte good =
      ⊎_elim (λ (h : b < 48). absurd (omega (arith, below_48 h)))
      (λ (l : 48 ≤ b). ⊎_elim (λ (h : b < 58). number l h (number_value l h))
      (λ (l : 58 ≤ b). ⊎_elim (λ (h : b < 65). absurd (omega (arith, below_65 l h)))
      (λ (l : 65 ≤ b). ⊎_elim (λ (h : b < 71). capital l h (capital_value_lem l h))
      (λ (past : 71 ≤ b). ⊎_elim (λ (h : b < 97). absurd (omega (arith, below_97 past h)))
      (λ (l : 97 ≤ b). ⊎_elim (λ (h : b < 103). letter l h (letter_value past l h))
      (λ (l : 103 ≤ b). absurd (omega (arith, above past l)))
      (lt_or_le b 103)) (lt_or_le b 97)) (lt_or_le b 71)) (lt_or_le b 65)) (lt_or_le b 58)) (lt_or_le b 48)

-- the value of a digit that was written
pub value_digit : (v : ℕ) → v < 16 → digit_of (digit v) ≡ v
unfolding digit
value_digit v h =
    ⊎_elim
    (λ (few : v < 10). rw (lt-ltb v 10 few) (number_value (48 + v) (omega arith) (omega arith) ∙ omega arith))
    (λ (many : 10 ≤ v). rw (le-ltb v 10 many) (letter_value (87 + v) (omega arith) (omega arith) (omega arith) ∙ omega arith))
    (lt_or_le v 10)

-- a digit that was read, written again: the same in lower case
pub digit_value : (b : ℕ) → DigitByte b → digit (digit_of b) ≡ lower b
unfolding digit lower
digit_value b (number l h e) = rw (e, lt-ltb (b - 48) 10 (omega arith), lt-ltb b 65 (omega arith)) (omega arith)
digit_value b (capital l h e) = rw (e, le-ltb (b - 55) 10 (omega arith), le-ltb b 65 l, lt-ltb b 71 h) (omega arith)
digit_value b (letter l h e) = rw (e, le-ltb (b - 87) 10 (omega arith), le-ltb b 65 (omega arith), le-ltb b 71 (omega arith)) (omega arith)

-- it is neither dash nor plus
pub no_dash : (b : ℕ) → DigitByte b → (b ≡ dash → ⊥)
no_dash b (number l h e) is = omega arith
no_dash b (capital l h e) is = omega arith
no_dash b (letter l h e) is = omega arith

pub no_plus : (b : ℕ) → DigitByte b → (b ≡ plus → ⊥)
no_plus b (number l h e) is = omega arith
no_plus b (capital l h e) is = omega arith
no_plus b (letter l h e) is = omega arith

-- only "0" is worth nothing
pub worth : (b : ℕ) → DigitByte b → (b ≡ 48 → ⊥) → 0 < digit_of b
worth b (number l h e) other = ⊎_elim (λ (same : 48 ≡ b). absurd (other (sym same))) (λ (more : 48 < b). omega arith) (eq-or-lt_of_le l)
worth b (capital l h e) other = omega arith
worth b (letter l h e) other = omega arith

pub digits_append : (ds es : List ℕ) → Digits ds → Digits es → Digits (ds ++ es)
digits_append [] es p q = q
digits_append (b ∷ ds) es p q = (p.0, digits_append ds es p.1 q)

pub value_append : (n : ℕ) (ds : List ℕ) (b : ℕ) → value n (ds ++ b ∷ []) ≡ value n ds * 16 + digit_of b
unfolding value
value_append n [] b = refl
value_append n (d ∷ ds) b = value_append (n * 16 + digit_of d) ds b

-- at most eight digits spell a word
value_below : (n : ℕ) (ds : List ℕ) → Digits ds → value n ds < (n + 1) * 16 ^ length ds
unfolding value
value_below n [] good = omega arith
value_below n (b ∷ ds) good =
    let most : n * 16 + digit_of b + 1 ≤ (n + 1) * 16 = omega (arith, good.0) in
    let more : (n * 16 + digit_of b + 1) * 16 ^ length ds ≤ (n + 1) * 16 * 16 ^ length ds = mul-le-mul_right (16 ^ length ds) most in
    rw (pow-succ' 16 (length ds)) (omega (arith, value_below (n * 16 + digit_of b) ds good.1, more))

pub value_fits : (ds : List ℕ) → Digits ds → length ds ≤ 8 → value 0 ds < 2 ^ 32
value_fits ds good short =
    omega (arith, value_below 0 ds good, pow-le-pow_right {n = 16} (omega arith) {i = length ds} {j = 8} short)

-- a spelling is made of digits and spells its number
pub digits_spelled : (k n : ℕ) → Digits (spelled 16 k n)
digits_spelled zero n = rw (spelled_none 16 n) tt
digits_spelled (suc k) n =
    ⊎_elim
    (λ (small : n < 16). rw (spelled_one 16 k n small) (omega (arith, value_digit n small), tt))
    (λ (big : 16 ≤ n). rw (spelled_more 16 k n big) (digits_append (spelled 16 k (n / 16)) (digit (n % 16) ∷ []) (digits_spelled k (n / 16)) (omega (arith, value_digit (n % 16) (omega arith)), tt)))
    (lt_or_le n 16)

pub value_spelled : (k n : ℕ) → n < 16 ^ k → value 0 (spelled 16 k n) ≡ n
unfolding value
value_spelled zero n h = rw (spelled_none 16 n) (omega arith)
value_spelled (suc k) n h =
    ⊎_elim
    (λ (small : n < 16). rw (spelled_one 16 k n small) (omega (arith, value_digit n small)))
    (λ (big : 16 ≤ n).
    let rest : value 0 (spelled 16 k (n / 16)) ≡ n / 16 = value_spelled k (n / 16) (omega (arith, pow-succ' 16 k)) in
    rw (spelled_more 16 k n big) (value_append 0 (spelled 16 k (n / 16)) (digit (n % 16)) ∙ omega (arith, value_digit (n % 16) (omega arith))))
    (lt_or_le n 16)

-- digits behind a number that is not 0 are spelled as they stand, in lower case
spelled_value : (j n : ℕ) (ds : List ℕ) → 0 < n → Digits ds → spelled 16 (j + length ds) (value n ds) ≡ spelled 16 j n ++ map lower ds
unfolding value
spelled_value j n [] some good = rw (add-zero j) (sym (append-nil (spelled 16 j n)))
spelled_value j n (b ∷ ds) some good =
    let m : ℕ = n * 16 + digit_of b in
    let fine : digit_of b ≤ 15 = good.0 in
    let high : m / 16 ≡ n = omega arith in
    let low : m % 16 ≡ digit_of b = omega arith in
    let count : j + suc (length ds) ≡ suc j + length ds = omega arith in
    let first : spelled 16 (suc j) m ≡ spelled 16 j n ++ lower b ∷ [] =
    spelled_more 16 j m (omega arith) ∙ rw (high, low, digit_value b (digit_byte b fine)) in
    rw (count, spelled_value (suc j) m ds (omega arith) good.1, first, append_assoc (spelled 16 j n) (lower b ∷ []) (map lower ds))

nothing_is_zero : 48 ∷ [] ≡ hex 0
unfolding digit
nothing_is_zero = sym (spelled_one 16 7 0 (omega arith))

nought_value : digit_of 48 ≡ 0
unfolding digit_of
nought_value = refl

-- digits without their leading zeros are the spelling of their number
pub shorn_value : (ds : List ℕ) → Digits ds → length ds ≤ 8 → shorn ds ≡ hex (value 0 ds)
unfolding shorn value
shorn_value [] good short = nothing_is_zero
shorn_value (b ∷ ds) good short =
    ⊎_elim
    (λ (nought : b ≡ 48).
    let still : 0 * 16 + digit_of b ≡ 0 = omega (arith, ap digit_of nought, nought_value) in
    rw (still, nought) (shorn_value ds good.1 (omega arith)))
    (λ (other : b ≡ 48 → ⊥).
    let byte : DigitByte b = digit_byte b good.0 in
    let count : 8 ≡ suc (7 - length ds) + length ds = omega arith in
    let few : 0 * 16 + digit_of b < 16 = omega (arith, good.0) in
    let some : 0 < 0 * 16 + digit_of b = omega (arith, worth b byte other) in
    let plain : digit (0 * 16 + digit_of b) ≡ lower b = ap digit (omega arith) ∙ digit_value b byte in
    rw (ne_eqb b 48 other)
    (sym (ap (λ (k : ℕ). spelled 16 k (value (0 * 16 + digit_of b) ds)) count ∙ spelled_value (suc (7 - length ds)) (0 * 16 + digit_of b) ds some good.1
    ∙ rw (spelled_one 16 (7 - length ds) (0 * 16 + digit_of b) few, plain))))
    (same_or_other b 48)
