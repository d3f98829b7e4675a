-- Sixteen digits held against a scalar at once, and the two of an escape by what each is. Assumes nothing.
use mathlib.Core.Path.{◌≡◌, refl, sym, ◌∙◌, ap, subst}
use mathlib.Core.Bool.{Bool, true, false, not, true≢false}
use mathlib.Core.List.{List, ◌++◌}
use mathlib.Core.Logic.{⊎_elim}
use Prim.Native.Nat.{ℕ, zero, suc, ◌+◌, ◌-◌, ◌*◌, ◌/◌, ◌%◌, ◌<◌, ◌≤◌}
use native.Mathlib.Nat.{add-zero}
use native.Mathlib.Omega.{arith}
use borrow.Author.Tests.{lt-ltb, le-ltb, ltb-true, ne_eqb, not-false}
use lib.Bits.{bit_and, bit_or, bit_xor, and_le_l, and_le_r, or_add_and, xor_add_and}
use lib.ListN.{length, get_or, take, drop, length-drop, take-append-drop}
use lib.Seq.{take_all, get_or-take, get_or-drop}
use Rattle.words.specs.Word.{word, bytes_of, Bytes}
use Rattle.words.specs.Decide.{pick, ◌<?◌, first_from, first}
use Rattle.words.proofs.WordLaws.{bytes_of_word, word_take, word_drop}
use Rattle.words.proofs.DecideLaws.{le_or_gt, first_none}
use Rattle.wire.specs.Layout.{boolean}
use Rattle.text_form.specs.Walk.{small_value, capital_value, fits_word}
use Rattle.text_walk.specs.Stages.{Digits, Fits, WordChecks, High, EscapeChecks}
use Rattle.std.specs.declared.result.Result.TheVariants.{Ok}
use Rattle.text_walk.proofs.CheckLaws.{WordLeft, word_begins, word_on, word_done, escape_whole}

-- Bits that are all 0

module _ (a b : ℕ) where
  or_none : bit_or a b ≡ 0 → (a ≡ 0) × (b ≡ 0)
  or_none e = none (bit_or a b) (bit_and a b) (or_add_and a b) (and_le_l a b) (and_le_r a b) e
    where
      none : (x y : ℕ) → x + y ≡ a + b → y ≤ a → y ≤ b → x ≡ 0 → (a ≡ 0) × (b ≡ 0)
      none x y sum l r z = (omega arith, omega arith)

  xor_none : bit_xor a b ≡ 0 → a ≡ b
  xor_none e = none (bit_xor a b) (bit_and a b) (xor_add_and a b) (and_le_l a b) (and_le_r a b) e
    where
      none : (x y : ℕ) → x + y * 2 ≡ a + b → y ≤ a → y ≤ b → x ≡ 0 → a ≡ b
      none x y sum l r z = omega arith

-- a byte that is the digit of a value below 16

below_16 : (v x : ℕ) → v ≡ x % 16 → v ≤ 15
below_16 v x e = omega arith

digit_small : (b v : ℕ) → v ≤ 15 → 48 + v + 39 * ((v + 6) / 16) ≡ b → small_value b ≤ 15
unfolding small_value
digit_small b v small same =
    ⊎_elim
    (λ (letter : 10 ≤ v).
    let is : b ≡ 87 + v = omega arith in
    rw (le-ltb b 48 (omega arith), le-ltb b 58 (omega arith), le-ltb b 97 (omega arith), lt-ltb b 103 (omega arith)) (omega arith))
    (λ (figure : v < 10).
    let is : b ≡ 48 + v = omega arith in
    rw (le-ltb b 48 (omega arith), lt-ltb b 58 (omega arith)) (omega arith))
    (le_or_gt 10 v)

pub no_misfit : (b v : ℕ) → v ≡ (b % 16 + 9 * (b / 64)) % 16 → bit_xor (48 + v + 39 * ((v + 6) / 16)) b ≡ 0 → small_value b ≤ 15
no_misfit b v is e = digit_small b v (below_16 v (b % 16 + 9 * (b / 64)) is) (xor_none (48 + v + 39 * ((v + 6) / 16)) b e)

-- one byte more
pub digit_more : (s : List ℕ) (k sum one : ℕ) → (sum ≡ 0 → Digits k s) → (one ≡ 0 → small_value (get_or s k 0) ≤ 15) → bit_or sum one ≡ 0 → Digits (k + 1) s
digit_more s k sum one so_far fits e j h =
    let parts = or_none sum one e in
    ⊎_elim (λ (last : k ≤ j). let same : k ≡ j = omega arith in rw (← same) (fits parts.1)) (λ (before : j < k). so_far parts.0 j before) (le_or_gt k j)

-- The digits of 0 and of 1

all_fit : (s : List ℕ) → first (λ (k : ℕ). not (fits_word boolean (15 - k) (small_value (get_or s k 0)))) 16 ≡ 16 → Fits boolean s
all_fit s e k h = not-false _ (first_none (λ (k : ℕ). not (fits_word boolean (15 - k) (small_value (get_or s k 0)))) 0 16 k (omega arith) (rw e h))

module _ (s : List ℕ) (long : length s ≡ 16) (bytes : Bytes s) where
  eight : (at w : ℕ) → at + 8 ≤ length s → w ≡ word 8 (take 8 (drop at s)) 0 → take 8 (drop at s) ≡ bytes_of 8 w
  eight at w h e = sym (ap (bytes_of 8) (e ∙ word_take 8 8 (drop at s) 0 (omega arith) ∙ word_drop 8 at s 0 ∙ ap (word 8 s) (add-zero at)) ∙ bytes_of_word 8 s at bytes h)

  module _ (high low : ℕ) (front : high ≡ word 8 (take 8 (drop 0 s)) 0) (back : low ≡ word 8 (take 8 (drop 8 s)) 0) (zeros : high ≡ 0x3030_3030_3030_3030) where
    whole : (n : ℕ) → low ≡ n → bytes_of 8 0x3030_3030_3030_3030 ++ bytes_of 8 n ≡ s
    whole n e =
        rw (← zeros, ← e, ← eight 0 high (omega arith) front, ← eight 8 low (omega arith) back, take_all 8 (drop 8 s) (rw (length-drop 8 s, long) (omega arith)), take-append-drop 8 s)

    pub is_zero : low ≡ 0x3030_3030_3030_3030 → Fits boolean s
    unfolding bytes_of small_value first_from
    is_zero e = subst (Fits boolean) (whole 0x3030_3030_3030_3030 e) (all_fit (bytes_of 8 0x3030_3030_3030_3030 ++ bytes_of 8 0x3030_3030_3030_3030) refl)

    pub is_one : low ≡ 0x3130_3030_3030_3030 → Fits boolean s
    unfolding bytes_of small_value first_from
    is_one e = subst (Fits boolean) (whole 0x3130_3030_3030_3030 e) (all_fit (bytes_of 8 0x3030_3030_3030_3030 ++ bytes_of 8 0x3130_3030_3030_3030) refl)

-- Sixteen digits that fit are a word

module _ (s : List ℕ) (start type : ℕ) (there : start + 16 ≤ length s) (fit : Fits type (take (start + 16 - start) (drop start s))) where
  at_place : (k left : ℕ) → k < 16 → left ≡ 15 - k → true ≡ fits_word type left (small_value (get_or s (start + k) 0))
  at_place k left h e =
      sym (ap (λ (n : ℕ). fits_word type n (small_value (get_or s (start + k) 0))) e
      ∙ ap (λ (b : ℕ). fits_word type (15 - k) (small_value b)) (sym (get_or-take (start + 16 - start) (drop start s) k 0 (omega arith) ∙ get_or-drop start s k 0))
      ∙ fit k h)

  next : (n i left : ℕ) → n < 16 → start + n + 1 ≡ i → 16 - n - 1 ≡ left → WordLeft s start type (start + n) (16 - n) → WordLeft s start type i left
  next n i left h e f so_far =
      subst (λ (l : ℕ). WordLeft s start type i l) f
      (subst (λ (j : ℕ). WordLeft s start type j (16 - n - 1)) e
      (word_on s start type (start + n) (16 - n) so_far (omega arith) (omega arith) (small_value (get_or s (start + n) 0)) refl true (at_place n (16 - n - 1) h (omega arith)) refl))

  up_to : (n : ℕ) → n ≤ 16 → WordLeft s start type (start + n) (16 - n)
  up_to zero h = subst (λ (i : ℕ). WordLeft s start type i 16) (sym (add-zero start)) (word_begins s start type (omega arith))
  up_to (suc n) h = next n (start + suc n) (16 - suc n) h (omega arith) (omega arith) (up_to n (omega arith))

  word_whole : WordChecks s start type (Ok (start + 16))
  word_whole = word_done s start type (start + 16) 0 (up_to 16 (omega arith)) (omega arith)

module _ (s : List ℕ) (start type : ℕ) (there : start + 16 ≤ length s) where
  pub word_boolean : type ≡ boolean → Fits boolean (take (start + 16 - start) (drop start s)) → WordChecks s start type (Ok (start + 16))
  word_boolean e fit = word_whole s start type there (rw e fit)

  pub word_digits : (type ≡ boolean → ⊥) → Digits 16 (take (start + 16 - start) (drop start s)) → WordChecks s start type (Ok (start + 16))
  word_digits other all =
      word_whole s start type there (λ k h. rw (le-ltb 15 (small_value (get_or (take (start + 16 - start) (drop start s)) k 0)) (all k h), ne_eqb type boolean other))

-- An escape's digits

pub low_at : {b n : ℕ} → b ≡ n → capital_value n <? 16 ≡ true → capital_value b ≤ 15
low_at {n = n} e small = rw e (let h : capital_value n < 16 = ltb-true (capital_value n) 16 small in omega arith)

-- the high digits of escaped bytes alone
abbrev pub alone : ℕ → Bool
alone h = pick (h <? 2) true (pick (h <? 8) false (h <? 16))

high_alone : (h : ℕ) → alone h ≡ true → High h
high_alone h e =
    ⊎_elim
    (λ (many : 2 ≤ h).
    ⊎_elim
    (λ (past : 8 ≤ h).
    let most : h < 16 = ltb-true h 16 (rw (le-ltb h 2 many, le-ltb h 8 past) at e) in
    (rw (le-ltb h 3 (omega arith), le-ltb h 7 (omega arith), lt-ltb h 16 most), λ low small. rw (le-ltb (h * 16 + low) 33 (omega arith), lt-ltb 126 (h * 16 + low) (omega arith))))
    (λ (short : h < 8). absurd (true≢false (sym e ∙ rw (le-ltb h 2 many, lt-ltb h 8 short))))
    (le_or_gt 8 h))
    (λ (few : h < 2). (rw (lt-ltb h 3 (omega arith)), λ low small. rw (lt-ltb (h * 16 + low) 33 (omega arith))))
    (le_or_gt 2 h)

pub high_at : {b n : ℕ} → b ≡ n → alone (capital_value n) ≡ true → High (capital_value b)
high_at {n = n} e told = rw e (high_alone (capital_value n) told)

pub escape_by : (s : List ℕ) (i : ℕ) → i + 2 ≤ length s → High (capital_value (get_or s i 0)) → capital_value (get_or s (i + 1) 0) ≤ 15 → EscapeChecks s i (Ok (i + 2))
escape_by s i h high low =
    let both : i + 1 + 1 ≡ i + 2 = omega arith in
    subst (λ (n : ℕ). EscapeChecks s i (Ok n)) both
    (escape_whole s i (omega arith) (capital_value (get_or s i 0)) refl true (sym high.0) refl (omega arith) (capital_value (get_or s (i + 1) 0)) refl low true (sym (high.1 (capital_value (get_or s (i + 1) 0)) low)) refl)
