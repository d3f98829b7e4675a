-- Hex digits by arithmetic alone: one at a time, and eight in the bytes of a word, of which no carry leaves its byte. Assumes
-- nothing.
use mathlib.Core.Path.{◌≡◌, refl, ◌∙◌, ap, ap₂}
use mathlib.Core.List.{List, [], ◌∷◌}
use mathlib.Core.Logic.{◌⊎◌, inl, inr, ⊎_elim}
use Prim.Native.Nat.{ℕ, zero, suc, ◌+◌, ◌-◌, ◌*◌, ◌/◌, ◌%◌, ◌<◌, ◌≤◌}
use native.Mathlib.Omega.{arith}
use borrow.Author.Tests.{lt-ltb, le-ltb}
use lib.Bits.{bit_and, and_block, and_high, and_le_r}
use lib.ListN.{get_or}
use Rattle.words.specs.Decide.{decide, ◌⇒◌, ◌<?◌}
use Rattle.words.specs.Word.{word}
use Rattle.words.proofs.DecideLaws.{le_or_gt}
use Rattle.text_form.specs.Walk.{small_value, capital_value}
use Rattle.text_read.specs.Stages.{Digits, digit_values, spelling}

-- a digit whose letters begin at `a`
abbrev value_from : ℕ → ℕ → ℕ
value_from a b = decide (b <? 48 ⇒ 16 ∷ b <? 58 ⇒ (b - 48) ∷ b <? a ⇒ 16 ∷ b <? (a + 6) ⇒ (b - (a - 10)) ∷ []) 16

abbrev Digit : ℕ → ℕ → ℕ → Type 0
Digit a b v = ((48 ≤ b) × (b < 58) × (v ≡ b - 48)) ⊎ ((a ≤ b) × (b < a + 6) × (v ≡ b - (a - 10)))

which : (a b : ℕ) → 58 ≤ a → value_from a b ≤ 15 → Digit a b (value_from a b)
which a b far h = ⊎_elim (λ (k : 48 ≤ b). digits k) (λ (k : b < 48). let big : 16 ≤ 15 = rw (lt-ltb b 48 k) at h in absurd (omega arith)) (le_or_gt 48 b)
  where
    last : a ≤ b → Digit a b (value_from a b)
    last k =
        ⊎_elim
        (λ (m : a + 6 ≤ b). let big : 16 ≤ 15 = rw (le-ltb b 48 (omega arith), le-ltb b 58 (omega arith), le-ltb b a k, le-ltb b (a + 6) m) at h in absurd (omega arith))
        (λ (m : b < a + 6). inr (k, m, rw (le-ltb b 48 (omega arith), le-ltb b 58 (omega arith), le-ltb b a k, lt-ltb b (a + 6) m)))
        (le_or_gt (a + 6) b)

    letters : 58 ≤ b → Digit a b (value_from a b)
    letters k =
        ⊎_elim (λ (m : a ≤ b). last m)
        (λ (m : b < a). let big : 16 ≤ 15 = rw (le-ltb b 48 (omega arith), le-ltb b 58 k, lt-ltb b a m) at h in absurd (omega arith)) (le_or_gt a b)

    digits : 48 ≤ b → Digit a b (value_from a b)
    digits k = ⊎_elim (λ (m : 58 ≤ b). letters m) (λ (m : b < 58). inl (k, m, rw (le-ltb b 48 k, lt-ltb b 58 m))) (le_or_gt 58 b)

-- a capital digit's value without a test
pub capital_digit : (b : ℕ) → capital_value b ≤ 15 → b % 16 + 9 * (b / 64) ≡ capital_value b
unfolding capital_value
capital_digit b h =
    ⊎_elim (λ (d : (48 ≤ b) × (b < 58) × (value_from 65 b ≡ b - 48)). omega (arith, d.0, d.1, d.2))
    (λ (d : (65 ≤ b) × (b < 71) × (value_from 65 b ≡ b - 55)). omega (arith, d.0, d.1, d.2)) (which 65 b (omega arith) h)

-- what a small digit is made of
small_digit : (b : ℕ) → small_value b ≤ 15 → (b < 128) × (b ≡ 48 + 39 * (b / 64) + small_value b)
unfolding small_value
small_digit b h =
    ⊎_elim (λ (d : (48 ≤ b) × (b < 58) × (value_from 97 b ≡ b - 48)). (omega (arith, d.1), omega (arith, d.0, d.1, d.2)))
    (λ (d : (97 ≤ b) × (b < 103) × (value_from 97 b ≡ b - 87)). (omega (arith, d.1), omega (arith, d.0, d.1, d.2))) (which 97 b (omega arith) h)

-- the same byte in each of k, and which of k digits are letters
abbrev repeated : ℕ → ℕ → ℕ
repeated b zero = 0
repeated b (suc k) = b + 256 * repeated b k

abbrev letter_bits : ℕ → List ℕ → ℕ → ℕ
letter_bits zero s i = 0
letter_bits (suc k) s i = get_or s i 0 / 64 + 256 * letter_bits k s (i + 1)

pub masked : (k : ℕ) (s : List ℕ) (i : ℕ) → Digits k s i → bit_and (word k s i) (repeated 64 k) ≡ 64 * letter_bits k s i
unfolding word
masked zero s i d = refl
masked (suc k) s i d =
    let b : ℕ = get_or s i 0 in
    let small : b < 128 = (small_digit b d.0).0 in
    let one : bit_and b 64 ≡ b / 64 % 2 * 64 = and_high b 1 6 in
    ap₂ bit_and (swap b (word k s (i + 1))) (swap 64 (repeated 64 k))
    ∙ and_block 8 (word k s (i + 1)) (repeated 64 k) b 64 (omega arith) (omega arith)
    ∙ joined (bit_and (word k s (i + 1)) (repeated 64 k)) (letter_bits k s (i + 1)) (bit_and b 64) b (masked k s (i + 1) d.1) one small
  where
    swap : (x y : ℕ) → x + 256 * y ≡ y * 256 + x
    swap x y = omega arith

    joined : (x y z b : ℕ) → x ≡ 64 * y → z ≡ b / 64 % 2 * 64 → b < 128 → x * 256 + z ≡ 64 * (b / 64 + 256 * y)
    joined x y z b e f h = omega arith

pub parts : (k : ℕ) (s : List ℕ) (i : ℕ) → Digits k s i → word k s i ≡ repeated 48 k + 39 * letter_bits k s i + digit_values k s i
unfolding word
parts zero s i d = refl
parts (suc k) s i d =
    let b : ℕ = get_or s i 0 in
    let its : b ≡ 48 + 39 * (b / 64) + small_value b = (small_digit b d.0).1 in
    let rest = parts k s (i + 1) d.1 in
    omega (arith, its, rest)

-- the letters taken out of a word of eight digits, and the values left
abbrev zeros : ℕ
zeros = 0x3030303030303030

abbrev letters_of : ℕ → ℕ
letters_of w = bit_and w 0x4040404040404040 / 64

pub few_letters : (w : ℕ) → 39 * letters_of w < 18446744073709551616
few_letters w = omega (arith, and_le_r w 0x4040404040404040)

module _ (s : List ℕ) (i w : ℕ) (d : Digits 8 s i) (e : w ≡ word 8 s i) where
  sum : w ≡ zeros + 39 * letters_of w + digit_values 8 s i
  sum = added w (letter_bits 8 s i) (digit_values 8 s i) (bit_and w 0x4040404040404040) (e ∙ parts 8 s i d) (ap (λ (x : ℕ). bit_and x 0x4040404040404040) e ∙ masked 8 s i d)
    where
      added : (w l v a : ℕ) → w ≡ zeros + 39 * l + v → a ≡ 64 * l → w ≡ zeros + 39 * (a / 64) + v
      added w l v a p q = omega arith

  pub at_least : zeros ≤ w
  at_least = low w (39 * letters_of w) (digit_values 8 s i) sum
    where
      low : (w l v : ℕ) → w ≡ zeros + l + v → zeros ≤ w
      low w l v p = omega arith

  pub letters_within : 39 * letters_of w ≤ w - zeros
  letters_within = low w (39 * letters_of w) (digit_values 8 s i) sum
    where
      low : (w l v : ℕ) → w ≡ zeros + l + v → l ≤ w - zeros
      low w l v p = omega arith

  pub values_left : w - zeros - 39 * letters_of w ≡ digit_values 8 s i
  values_left = left w (39 * letters_of w) (digit_values 8 s i) sum
    where
      left : (w l v : ℕ) → w ≡ zeros + l + v → w - zeros - l ≡ v
      left w l v p = omega arith

-- two digits before others, paired: each byte is 16 times a digit and the next
abbrev pub paired : ℕ → ℕ
paired x = x * 16 + x / 256

two_paired : (a b v n : ℕ) → a ≤ 15 → b ≤ 15 → v ≤ 15 → paired (a + 256 * (b + 256 * (v + 256 * n))) ≡ 16 * a + b + 256 * (16 * b + v) + 65536 * paired (v + 256 * n)
two_paired a b v n ha hb hv = omega arith

lowest : (a b v y z : ℕ) → a ≤ 15 → b ≤ 15 → v ≤ 15 → y ≡ 16 * a + b + 256 * (16 * b + v) + 65536 * z → y % 256 ≡ 16 * a + b
lowest a b v y z ha hb hv e = omega arith

others : (a b v y z : ℕ) → a ≤ 15 → b ≤ 15 → v ≤ 15 → y ≡ 16 * a + b + 256 * (16 * b + v) + 65536 * z → y / 65536 ≡ z
others a b v y z ha hb hv e = omega arith

abbrev pub spelled : ℕ → ℕ
spelled y = y % 256 * 16777216 + y / 65536 % 256 * 65536 + y / 65536 / 65536 % 256 * 256 + y / 65536 / 65536 / 65536 % 256

-- every other byte of eight digits, paired
pub eight_spelled : (s : List ℕ) (i : ℕ) → Digits 8 s i → spelled (paired (digit_values 8 s i)) ≡ spelling 8 s i 0
eight_spelled s i (ha, (hb, (hc, (hd, (he, (hf, (hg, (hh, none)))))))) =
    let v : ℕ → ℕ = λ (n : ℕ). small_value (get_or s n 0) in
    let a : ℕ = v i in
    let b : ℕ = v (i + 1) in
    let c : ℕ = v (i + 1 + 1) in
    let d : ℕ = v (i + 1 + 1 + 1) in
    let e : ℕ = v (i + 1 + 1 + 1 + 1) in
    let f : ℕ = v (i + 1 + 1 + 1 + 1 + 1) in
    let g : ℕ = v (i + 1 + 1 + 1 + 1 + 1 + 1) in
    let h : ℕ = v (i + 1 + 1 + 1 + 1 + 1 + 1 + 1) in
    all a b c d e f g h ha hb hc hd he hf hg hh
  where
    joined : (y0 y1 y2 y3 p q r t : ℕ) → y0 % 256 ≡ p → y0 / 65536 ≡ y1 → y1 % 256 ≡ q → y1 / 65536 ≡ y2 → y2 % 256 ≡ r → y2 / 65536 ≡ y3 → y3 % 256 ≡ t
        → spelled y0 ≡ p * 16777216 + q * 65536 + r * 256 + t
    joined y0 y1 y2 y3 p q r t e0 f0 e1 f1 e2 f2 e3 = rw (e0, f0, e1, f1, e2, f2, e3)

    all : (a b c d e f g h : ℕ) → a ≤ 15 → b ≤ 15 → c ≤ 15 → d ≤ 15 → e ≤ 15 → f ≤ 15 → g ≤ 15 → h ≤ 15
        → spelled (paired (a + 256 * (b + 256 * (c + 256 * (d + 256 * (e + 256 * (f + 256 * (g + 256 * (h + 256 * 0))))))))) ≡ (((((((0 * 16 + a) * 16 + b) * 16 + c) * 16 + d) * 16 + e) * 16 + f) * 16 + g) * 16 + h
    all a b c d e f g h ha hb hc hd he hf hg hh =
        let n6 : ℕ = h + 256 * 0 in
        let n4 : ℕ = f + 256 * (g + 256 * n6) in
        let n2 : ℕ = d + 256 * (e + 256 * n4) in
        let y0 = two_paired a b c n2 ha hb hc in
        let y1 = two_paired c d e n4 hc hd he in
        let y2 = two_paired e f g n6 he hf hg in
        let y3 : paired (g + 256 * n6) ≡ 16 * g + h + 256 * (16 * h + 0) + 65536 * 0 = omega arith in
        joined (paired (a + 256 * (b + 256 * (c + 256 * n2)))) (paired (c + 256 * n2)) (paired (e + 256 * n4)) (paired (g + 256 * n6)) (16 * a + b) (16 * c + d) (16 * e + f) (16 * g + h)
        (lowest a b c _ _ ha hb hc y0) (others a b c _ _ ha hb hc y0) (lowest c d e _ _ hc hd he y1) (others c d e _ _ hc hd he y1)
        (lowest e f g _ _ he hf hg y2) (others e f g _ _ he hf hg y2) (lowest g h 0 _ 0 hg hh (omega arith) y3)
        ∙ omega arith

-- digits behind others
pub spelling_behind : (s : List ℕ) (i w : ℕ) → w * 4294967296 + spelling 8 s i 0 ≡ spelling 8 s i w
spelling_behind s i w = omega arith
