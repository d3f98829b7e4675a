-- Eight bytes at a step over the true tables are the polynomial's. Assumes nothing.
use mathlib.Core.Path.{◌≡◌, refl, sym, ap, ap₂, ◌∙◌, subst}
use mathlib.Core.List.{List, [], ◌∷◌}
use Prim.Native.Nat.{ℕ, zero, suc, ◌+◌, ◌*◌, ◌/◌, ◌%◌, ◌^◌, ◌≤◌, ◌<◌}
use native.Mathlib.Nat.{mod-lt, mul-one, not-suc-le-zero, le_of_suc-le-suc, mul_comm, zero-add, add-zero, add_comm, mul-suc, mul_assoc, add-mul}
use native.Mathlib.Omega.{arith}
use lib.Dec.{lit<}
use lib.ListN.{length, get_or, take, drop, length-drop, take-append-drop}
use lib.Seq.{length-take-le, drop-drop}
use lib.Arith.{digits_div, digits_mod}
use lib.Pow.{pow-add, shl_lt}
use lib.Bits.{bit_xor, xor_shifted, xor_comm}
use Rattle.words.specs.Word.{word, Bytes}
use Rattle.crc64.specs.Polynomial.{steps, fold}
use Rattle.crc64.specs.Table.{swapped, entry, entries, turn, fold_over}
use Rattle.crc64.proofs.Register.{steps_xor, steps_add, steps_shift}
use Rattle.crc64.proofs.Digits.{spelled}
use Rattle.crc64.proofs.Folding.{big_endian, at_once, fold_append, fold_lt, tail_bytes}
use Rattle.crc64.proofs.Burst.{bytes_take, bytes_drop}
use Rattle.crc64.proofs.Entries.{entries_at, fold_over_true}
use Rattle.words.proofs.WordLaws.{word_drop}
use Rattle.crc64.proofs.Swap.{swapped_xor, swapped_lt, swapped_twice}
use Rattle.crc64_eight.specs.Lent.{looked, fold_words, fold_eight}
use Rattle.crc64_eight.specs.Statement.{TablesIs}
use Rattle.crc64_eight.proofs.Rule.{behind}

-- ---- the bytes of a number, each with those behind it

-- the n bytes of x turned round, at the top of a register that they leave 8m bits of free
module _ (n m x : ℕ) (free : 8 * n + 8 * m ≡ 56) where
  abbrev b : ℕ
  b = x % 256

  abbrev y : ℕ
  y = swapped n (x / 256)

  y_lt : y * 2 ^ (8 * m) < 2 ^ 56
  y_lt = subst (λ (e : ℕ). swapped n (x / 256) * 2 ^ (8 * m) < 2 ^ e) free (shl_lt (8 * n) (8 * m) (swapped_lt n (x / 256)))

  -- the lowest byte goes to the top, beside the rest
  apart : swapped (suc n) x * 2 ^ (8 * m) ≡ bit_xor (b * 2 ^ 56) (y * 2 ^ (8 * m))
  unfolding swapped
  apart =
      add-mul (x % 256 * 2 ^ (8 * n)) (swapped n (x / 256)) (2 ^ (8 * m))
      ∙ ap (λ (z : ℕ). z + swapped n (x / 256) * 2 ^ (8 * m))
      (mul_assoc (x % 256) (2 ^ (8 * n)) (2 ^ (8 * m)) ∙ ap (λ (z : ℕ). x % 256 * z) (sym (pow-add 2 (8 * n) (8 * m)) ∙ ap (λ (e : ℕ). 2 ^ e) free))
      ∙ sym (xor_shifted (x % 256) 56 (swapped n (x / 256) * 2 ^ (8 * m)) y_lt)

  shifted : steps 8 (y * 2 ^ (8 * m)) ≡ y * 2 ^ (8 * suc m)
  shifted =
      steps_shift 8 (y * 2 ^ (8 * m)) (shl_lt 56 8 y_lt)
      ∙ mul_assoc y (2 ^ (8 * m)) (2 ^ 8)
      ∙ ap (λ (z : ℕ). y * z) (sym (pow-add 2 (8 * m) 8) ∙ ap (λ (e : ℕ). 2 ^ e) (sym (mul-suc 8 m)))

  -- e more steps at the end
  pub one_more : (e : ℕ) → steps (8 * suc n + e) (swapped (suc n) x * 2 ^ (8 * m)) ≡ bit_xor (steps (8 * suc n + e) (b * 2 ^ 56)) (steps (8 * n + e) (y * 2 ^ (8 * suc m)))
  one_more e =
      ap (steps (8 * suc n + e)) apart
      ∙ steps_xor (8 * suc n + e) (b * 2 ^ 56) (y * 2 ^ (8 * m))
      ∙ ap (λ (z : ℕ). bit_xor (steps (8 * suc n + e) (b * 2 ^ 56)) z)
      (ap (λ (k : ℕ). steps k (y * 2 ^ (8 * m))) (omega (arith, mul-suc 8 n)) ∙ steps_add 8 (8 * n + e) (y * 2 ^ (8 * m)) ∙ ap (steps (8 * n + e)) shifted)

-- tables whose entries have gone e steps further
abbrev pub Ruled : List ℕ → ℕ → Type 0
Ruled t e = (k b : ℕ) → k < 8 → b < 256 → get_or t (256 * k + b) 0 ≡ entry (8 * suc k + e) b

pub tables_ruled : {t : List ℕ} → TablesIs t → Ruled t 0
tables_ruled told k b hk hb = told.rule k b hk hb ∙ sym (behind k b) ∙ ap (λ (n : ℕ). entry n b) (sym (add-zero (8 * suc k)))

single : (m x : ℕ) → m ≡ 7 → swapped 1 x * 2 ^ (8 * m) ≡ x % 256 * 2 ^ 56
unfolding swapped
single m x e = ap (λ (n : ℕ). (x % 256 * 1 + 0) * 2 ^ (8 * n)) e ∙ ap (λ (z : ℕ). z * 2 ^ 56) (add-zero (x % 256 * 1) ∙ mul-one (x % 256))

looked_is : (t : List ℕ) (e n m x : ℕ) → Ruled t e → n + m ≡ 7 → looked t n x ≡ swapped 8 (steps (8 * suc n + e) (swapped (suc n) x * 2 ^ (8 * m)))
unfolding looked entry
looked_is t e zero m x rule free =
    ap (λ (i : ℕ). get_or t i 0) (sym (zero-add (x % 256)))
    ∙ rule 0 (x % 256) (lit< tt) (mod-lt x (lit< tt))
    ∙ ap (λ (z : ℕ). swapped 8 (steps (8 + e) z)) (sym (single m x (sym (zero-add m) ∙ free)))
looked_is t e (suc n) m x rule free =
    ap₂ bit_xor (rule (suc n) (x % 256) (omega arith) (mod-lt x (lit< tt))) (looked_is t e n (suc m) (x / 256) rule (omega arith))
    ∙ sym (swapped_xor 8 (steps (8 * suc (suc n) + e) (x % 256 * 2 ^ 56)) (steps (8 * suc n + e) (swapped (suc n) (x / 256) * 2 ^ (8 * suc m))))
    ∙ ap (swapped 8) (sym (one_more (suc n) m x (omega arith) e))

-- a whole word: the register goes 64 steps on
pub looked_true : (t : List ℕ) (e x : ℕ) → Ruled t e → looked t 7 x ≡ swapped 8 (steps (64 + e) (swapped 8 x))
looked_true t e x rule = looked_is t e 7 0 x rule refl ∙ ap (λ (z : ℕ). swapped 8 (steps (64 + e) z)) (mul-one (swapped 8 x))

-- ---- the word of eight bytes, the first lowest, is that of the first highest turned round

pub swapped_word : (k : ℕ) (s : List ℕ) → Bytes s → k ≤ length s → swapped k (word k s 0) ≡ big_endian (take k s)
unfolding swapped word spelled
swapped_word zero s hs h = refl
swapped_word (suc k) [] hs h = absurd (not-suc-le-zero h)
swapped_word (suc k) (b ∷ s) hs h =
    let w : ℕ = word k s 0 in
    let front : b + 256 * word k (b ∷ s) 1 ≡ w * 256 + b = ap (λ (z : ℕ). b + 256 * z) (sym (word_drop k 1 (b ∷ s) 0)) ∙ add_comm b (256 * w) ∙ ap (λ (z : ℕ). z + b) (mul_comm 256 w) in
    ap₂ (λ (x y : ℕ). x * 2 ^ (8 * k) + swapped k y)
    (ap (λ (z : ℕ). z % 256) front ∙ digits_mod w (hs 0))
    (ap (λ (z : ℕ). z / 256) front ∙ digits_div w (hs 0))
    ∙ ap₂ (λ (n y : ℕ). b * 2 ^ (8 * n) + y) (sym (length-take-le k s (le_of_suc-le-suc h))) (swapped_word k s (tail_bytes b s hs) (le_of_suc-le-suc h))

-- one turn of the loop
pub word_turn : (t : List ℕ) (r : ℕ) (s : List ℕ) → Ruled t 0 → r < 2 ^ 64 → Bytes s → 8 ≤ length s
    → looked t 7 (bit_xor (swapped 8 r) (word 8 s 0)) ≡ swapped 8 (fold r (take 8 s))
word_turn t r s rule hr hs h =
    looked_true t 0 (bit_xor (swapped 8 r) (word 8 s 0)) rule
    ∙ ap (λ (z : ℕ). swapped 8 (steps 64 z)) (swapped_xor 8 (swapped 8 r) (word 8 s 0))
    ∙ ap₂ (λ (y z : ℕ). swapped 8 (steps 64 (bit_xor y z))) (swapped_twice 8 r hr) (swapped_word 8 s hs h)
    ∙ ap (λ (z : ℕ). swapped 8 (steps 64 z)) (xor_comm r (big_endian (take 8 s)) ∙ ap (λ (z : ℕ). bit_xor z r) (sym (mul-one (big_endian (take 8 s)))))
    ∙ ap (λ (n : ℕ). swapped 8 (steps (8 * n) (bit_xor (big_endian (take 8 s) * 1) r))) (sym (length-take-le 8 s h))
    ∙ ap (swapped 8) (sym (at_once 0 r (take 8 s) (ap (λ (n : ℕ). 8 * n + 0) (length-take-le 8 s h)) (bytes_take 8 s hs)))

-- ---- the whole string

-- a byte at a time asks only the first table
fold_over_same : (t u : List ℕ) → ((k : ℕ) → k < 256 → get_or t k 0 ≡ get_or u k 0) → (r : ℕ) (s : List ℕ) → fold_over t r s ≡ fold_over u r s
unfolding fold_over turn
fold_over_same t u same r [] = refl
fold_over_same t u same r (b ∷ s) =
    ap (λ (z : ℕ). fold_over t (bit_xor z (r / 256)) s) (same (bit_xor r b % 256) (mod-lt (bit_xor r b) (lit< tt)))
    ∙ fold_over_same t u same (turn u r b) s

first_table : (t : List ℕ) → Ruled t 0 → (k : ℕ) → k < 256 → get_or t k 0 ≡ get_or (entries 8) k 0
first_table t rule k h = ap (λ (i : ℕ). get_or t i 0) (sym (zero-add k)) ∙ rule 0 k (lit< tt) h ∙ sym (entries_at 8 k h)

-- n words at eight bytes a step, and what follows them a byte at a time
fold_words_true : (t : List ℕ) (n r : ℕ) (s : List ℕ) → Ruled t 0 → r < 2 ^ 64 → Bytes s → 8 * n ≤ length s
    → fold_over t (fold_words t n (swapped 8 r) s) (drop (8 * n) s) ≡ swapped 8 (fold r s)
unfolding fold_words
fold_words_true t zero r s rule hr hs h = fold_over_same t (entries 8) (first_table t rule) (swapped 8 r) s ∙ fold_over_true r s hr hs
fold_words_true t (suc n) r s rule hr hs h =
    let there : 8 * n + 8 ≤ length s = omega (arith, mul-suc 8 n) in
    ap₂ (λ (z : ℕ) (u : List ℕ). fold_over t (fold_words t n z (drop 8 s)) u)
    (word_turn t r s rule hr hs (omega (arith, there)))
    (ap (λ (k : ℕ). drop k s) (mul-suc 8 n ∙ add_comm (8 * n) 8) ∙ sym (drop-drop (8 * n) 8 s))
    ∙ fold_words_true t n (fold r (take 8 s)) (drop 8 s) rule (fold_lt r (take 8 s) hr) (bytes_drop 8 s hs) (omega (arith, there, length-drop 8 s))
    ∙ ap (swapped 8) (sym (fold_append r (take 8 s) (drop 8 s)) ∙ ap (fold r) (take-append-drop 8 s))

pub fold_eight_true : (t : List ℕ) (r : ℕ) (s : List ℕ) → TablesIs t → r < 2 ^ 64 → Bytes s → fold_eight t (swapped 8 r) s ≡ swapped 8 (fold r s)
unfolding fold_eight
fold_eight_true t r s told hr hs = fold_words_true t (length s / 8) r s (tables_ruled told) hr hs (omega arith)
