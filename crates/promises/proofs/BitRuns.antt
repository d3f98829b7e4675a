-- 64 consecutive bits are seen by the checksum, and 65 are not. The bits are digits of one bit, so crc64's laws of digits hold of
-- them. Assumes nothing.
use mathlib.Core.Path.{◌≡◌, refl, sym, ap, ap₂, ◌∙◌, subst}
use mathlib.Core.List.{List, [], ◌∷◌, ◌++◌}
use Prim.Native.Nat.{ℕ, zero, suc, ◌+◌, ◌-◌, ◌*◌, ◌/◌, ◌%◌, ◌^◌, ◌≤◌, ◌<◌}
use native.Mathlib.Nat.{add-zero, add_comm, one-mul, mul-suc, mul-add, mod-lt, mod-eq_of_lt, suc-ne-zero, suc_inj, lt_of_lt_of_le}
use native.Mathlib.Omega.{arith}
use native.Mathlib.Numerals.{add-one}
use lib.Dec.{lit<}
use lib.Arith.{lt-one}
use lib.ListN.{length, get_or, take, drop, length-append, length-drop, length-take, take-append-drop, get_or-append}
use lib.Seq.{length-take-le, take-nil, drop-nil, take-append-add, take-append_seam, drop-append-add, drop-append_seam, get_or-append-add, get_or-take, get_or-drop}
use lib.Pow.{pow_mono, mod-pow-add}
use lib.Bits.{bit_xor, xor_lt, xor_zero_r}
use Rattle.words.specs.Word.{Bytes}
use Rattle.crc64.specs.Polynomial.{poly, step, steps, fold_byte, fold, checksum}
use Rattle.crc64.specs.Damage.{xor_bytes}
use Rattle.crc64.proofs.Xor.{xor_cancel}
use Rattle.crc64.proofs.Digits.{Digits, spelled, fold_digit, fold_digits, tail_digits, digits_append, digits_xor, digits_once, spelled_lt, spelled_injective}
use Rattle.crc64.proofs.Folding.{tail_bytes}
use Rattle.crc64.proofs.Burst.{parts, digits_burst, digits_take, digits_drop}
use Rattle.promises.specs.BitRuns.{bits_of, bits, Bits64Seen, BytesAreBits, Bits65Unseen}

-- ---- the bits of one number

length_bits_of : (k n : ℕ) → length (bits_of k n) ≡ k
unfolding bits_of
length_bits_of zero n = refl
length_bits_of (suc k) n = ap suc (length_bits_of k n)

bits_of_digits : (k n : ℕ) → Digits 1 (bits_of k n)
unfolding bits_of
bits_of_digits zero n i = lit< tt
bits_of_digits (suc k) n zero = mod-lt (n / 2 ^ k) (lit< tt)
bits_of_digits (suc k) n (suc i) = bits_of_digits k n i

spelled_bits : (k n : ℕ) → spelled 1 (bits_of k n) ≡ n % 2 ^ k
unfolding bits_of spelled
spelled_bits zero n = sym (lt-one (mod-lt n (lit< tt)))
spelled_bits (suc k) n =
    ap₂ (λ (e x : ℕ). n / 2 ^ k % 2 * 2 ^ e + x) (one-mul (length (bits_of k n)) ∙ length_bits_of k n) (spelled_bits k n)
    ∙ sym (mod-pow-add n 1 k) ∙ ap (λ (e : ℕ). n % 2 ^ e) (add_comm 1 k ∙ add-one k)

-- ---- folding bits is folding bytes

byte_in_bits : (r b : ℕ) → b < 256 → fold_digits 1 r (bits_of 8 b) ≡ fold_byte r b
unfolding bits_of fold_byte
byte_in_bits r b h =
    digits_once 1 56 r (bits_of 8 b) refl (bits_of_digits 8 b)
    ∙ ap (λ (x : ℕ). steps 8 (bit_xor (x * 2 ^ 56) r)) (spelled_bits 8 b ∙ mod-eq_of_lt h)

fold_bits : (r : ℕ) (s : List ℕ) → Bytes s → fold_digits 1 r (bits s) ≡ fold r s
unfolding fold bits fold_digits
fold_bits r [] h = refl
fold_bits r (b ∷ s) h =
    digits_append 1 r (bits_of 8 b) (bits s)
    ∙ ap (λ (x : ℕ). fold_digits 1 x (bits s)) (byte_in_bits r b (h 0))
    ∙ fold_bits (fold_byte r b) s (tail_bytes b s h)

digits_joined : (w : ℕ) (a b : List ℕ) → Digits w a → Digits w b → Digits w (a ++ b)
digits_joined w [] b ha hb i = hb i
digits_joined w (x ∷ a) b ha hb zero = ha 0
digits_joined w (x ∷ a) b ha hb (suc i) = digits_joined w a b (tail_digits w x a ha) hb i

bits_digits : (s : List ℕ) → Digits 1 (bits s)
unfolding bits
bits_digits [] i = lit< tt
bits_digits (b ∷ s) i = digits_joined 1 (bits_of 8 b) (bits s) (bits_of_digits 8 b) (bits_digits s) i

-- ---- 64 are seen

pub bits_64_seen : Bits64Seen
bits_64_seen a b from count sumA sumB ha hb few d of-a of-b same =
    digits_burst 1 0 (lit< tt) (lit< tt) (subst (λ (n : ℕ). n ≤ 64) (sym (one-mul count)) few) d (bits_digits a) (bits_digits b)
    (fold_bits 0 a ha ∙ sym of-a ∙ same ∙ of-b ∙ sym (fold_bits 0 b hb))

-- ---- a run of bytes is a run of bits

-- a byte more
eight_more : (n : ℕ) → 8 * suc n ≡ 8 + 8 * n
eight_more n = mul-suc 8 n ∙ add_comm (8 * n) 8

pub length_bits : (s : List ℕ) → length (bits s) ≡ 8 * length s
unfolding bits bits_of
length_bits [] = refl
length_bits (b ∷ s) = length-append (bits_of 8 b) (bits s) ∙ ap (λ (n : ℕ). 8 + n) (length_bits s) ∙ sym (eight_more (length s))

bits_take : (n : ℕ) (s : List ℕ) → take (8 * n) (bits s) ≡ bits (take n s)
unfolding bits bits_of
bits_take zero s = refl
bits_take (suc n) [] = take-nil (8 * suc n)
bits_take (suc n) (b ∷ s) =
    ap (λ (k : ℕ). take k (bits (b ∷ s))) (eight_more n)
    ∙ take-append-add (bits_of 8 b) (bits s) (8 * n)
    ∙ ap (λ (t : List ℕ). bits_of 8 b ++ t) (bits_take n s)

bits_drop : (n : ℕ) (s : List ℕ) → drop (8 * n) (bits s) ≡ bits (drop n s)
unfolding bits bits_of
bits_drop zero s = refl
bits_drop (suc n) [] = drop-nil (8 * suc n)
bits_drop (suc n) (b ∷ s) =
    ap (λ (k : ℕ). drop k (bits (b ∷ s))) (eight_more n) ∙ drop-append-add (bits_of 8 b) (bits s) (8 * n) ∙ bits_drop n s

bits_injective : (a b : List ℕ) → length a ≡ length b → Bytes a → Bytes b → bits a ≡ bits b → a ≡ b
unfolding bits bits_of
bits_injective [] [] e ha hb same = refl
bits_injective [] (y ∷ b) e ha hb same = absurd (suc-ne-zero _ (sym e))
bits_injective (x ∷ a) [] e ha hb same = absurd (suc-ne-zero _ e)
bits_injective (x ∷ a) (y ∷ b) e ha hb same =
    let front : bits_of 8 x ≡ bits_of 8 y = ap (take 8) same in
    let first : x ≡ y =
    sym (spelled_bits 8 x ∙ mod-eq_of_lt (ha 0)) ∙ ap (spelled 1) front ∙ spelled_bits 8 y ∙ mod-eq_of_lt (hb 0) in
    ap₂ (λ (z : ℕ) (s : List ℕ). z ∷ s) first
    (bits_injective a b (suc_inj e) (tail_bytes x a ha) (tail_bytes y b hb) (ap (drop 8) same))

pub bytes_are_bits : BytesAreBits
bytes_are_bits a b at n ha hb d =
    let past : (s : List ℕ) → drop (8 * at + 8 * n) (bits s) ≡ bits (drop (at + n) s) =
    λ s. ap (λ (k : ℕ). drop k (bits s)) (sym (mul-add 8 at n)) ∙ bits_drop (at + n) s in
    record {
      same_length = length_bits a ∙ ap (λ (k : ℕ). 8 * k) d.same_length ∙ sym (length_bits b);
      same_front = bits_take at a ∙ ap bits d.same_front ∙ sym (bits_take at b);
      same_rest = past a ∙ ap bits d.same_rest ∙ sym (past b);
      differ = λ same. d.differ (bits_injective a b d.same_length ha hb same);
    }

-- ---- 65 are not seen

-- bytes from bits, eight at a time
unfoldable packed : ℕ → List ℕ → List ℕ
packed zero t = []
packed (suc n) t = spelled 1 (take 8 t) ∷ packed n (drop 8 t)

length_packed : (n : ℕ) (t : List ℕ) → length (packed n t) ≡ n
unfolding packed
length_packed zero t = refl
length_packed (suc n) t = ap suc (length_packed n (drop 8 t))

-- eight bits are there where there is a byte more, and the rest is the rest
enough : (l n : ℕ) → l ≡ 8 * n + 8 → 8 ≤ l
enough l n e = omega arith

rest_of : (l n : ℕ) → l ≡ 8 * n + 8 → l - 8 ≡ 8 * n
rest_of l n e = omega arith

packed_bytes_lem : (n : ℕ) (t : List ℕ) → Digits 1 t → Bytes (packed n t)
unfolding packed
packed_bytes_lem zero t h i = lit< tt
packed_bytes_lem (suc n) t h zero =
    let few : 1 * length (take 8 t) ≤ 8 = omega (arith, length-take 8 t) in
    lt_of_lt_of_le (spelled_lt 1 (take 8 t) (digits_take 1 8 t h)) (pow_mono {i = 1 * length (take 8 t)} {j = 8} few)
packed_bytes_lem (suc n) t h (suc i) = packed_bytes_lem n (drop 8 t) (digits_drop 1 8 t h) i

bits_of_spelled : (t : List ℕ) → Digits 1 t → bits_of (length t) (spelled 1 t) ≡ t
bits_of_spelled t h =
    let below : spelled 1 t < 2 ^ length t = subst (λ (e : ℕ). spelled 1 t < 2 ^ e) (one-mul (length t)) (spelled_lt 1 t h) in
    spelled_injective 1 (bits_of (length t) (spelled 1 t)) t (length_bits_of (length t) (spelled 1 t)) (bits_of_digits (length t) (spelled 1 t)) h
    (spelled_bits (length t) (spelled 1 t) ∙ mod-eq_of_lt below)

bits_packed : (n : ℕ) (t : List ℕ) → length t ≡ 8 * n → Digits 1 t → bits (packed n t) ≡ t
unfolding bits packed
bits_packed zero [] e h = refl
bits_packed zero (x ∷ t) e h = absurd (suc-ne-zero _ e)
bits_packed (suc n) t e h =
    let long : length t ≡ 8 * n + 8 = e ∙ mul-suc 8 n in
    let eight : length (take 8 t) ≡ 8 = length-take-le 8 t (enough (length t) n long) in
    ap₂ (λ (u v : List ℕ). u ++ v)
    (ap (λ (k : ℕ). bits_of k (spelled 1 (take 8 t))) (sym eight) ∙ bits_of_spelled (take 8 t) (digits_take 1 8 t h))
    (bits_packed n (drop 8 t) (length-drop 8 t ∙ rest_of (length t) n long) (digits_drop 1 8 t h))
    ∙ take-append-drop 8 t

-- the bits of the polynomial with its top term
unfoldable pattern : List ℕ
pattern = bits_of 65 (2 ^ 64 + poly)

-- it leaves nothing of itself
pattern_vanishes : fold_digits 1 0 pattern ≡ 0
unfolding pattern bits_of fold_digits fold_digit steps step
pattern_vanishes = refl

length_pattern : length pattern ≡ 65
unfolding pattern
length_pattern = length_bits_of 65 (2 ^ 64 + poly)

length_xored : (a b : List ℕ) → length a ≡ length b → length (xor_bytes a b) ≡ length a
unfolding xor_bytes
length_xored [] b e = refl
length_xored (x ∷ a) [] e = absurd (suc-ne-zero _ e)
length_xored (x ∷ a) (y ∷ b) e = ap suc (length_xored a b (suc_inj e))

xored_at : (a b : List ℕ) (i : ℕ) → length a ≡ length b → get_or (xor_bytes a b) i 0 ≡ bit_xor (get_or a i 0) (get_or b i 0)
unfolding xor_bytes
xored_at [] [] i e = refl
xored_at [] (y ∷ b) i e = absurd (suc-ne-zero _ (sym e))
xored_at (x ∷ a) [] i e = absurd (suc-ne-zero _ e)
xored_at (x ∷ a) (y ∷ b) zero e = refl
xored_at (x ∷ a) (y ∷ b) (suc i) e = xored_at a b i (suc_inj e)

xored_digits : (w : ℕ) (a b : List ℕ) → length a ≡ length b → Digits w a → Digits w b → Digits w (xor_bytes a b)
xored_digits w a b e ha hb i = subst (λ (x : ℕ). x < 2 ^ w) (sym (xored_at a b i e)) (xor_lt w (get_or a i 0) (get_or b i 0) (ha i) (hb i))

-- a bit that is turned is another
turned : (x : ℕ) → x ≡ bit_xor x 1 → ⊥
turned x e = suc-ne-zero 0 (sym (xor_cancel x (xor_zero_r x ∙ e)))

-- the pattern xored over the bits from `from` on
module _ (t : List ℕ) (from : ℕ) (digits : Digits 1 t) (fits : from + 65 ≤ length t) where
  abbrev front : List ℕ
  front = take from t

  abbrev stretch : List ℕ
  stretch = take 65 (drop from t)

  abbrev rest : List ℕ
  rest = drop (from + 65) t

  abbrev crossed : List ℕ
  crossed = xor_bytes stretch pattern

  abbrev flipped : List ℕ
  flipped = front ++ (crossed ++ rest)

  length_front : length front ≡ from
  length_front = length-take-le from t (omega (arith, fits))

  length_stretch : length stretch ≡ 65
  length_stretch = length-take-le 65 (drop from t) (omega (arith, fits, length-drop from t))

  even : length stretch ≡ length pattern
  even = length_stretch ∙ sym length_pattern

  length_crossed : length crossed ≡ 65
  length_crossed = length_xored stretch pattern even ∙ length_stretch

  flipped_length : length flipped ≡ length t
  flipped_length =
      length-append front (crossed ++ rest)
      ∙ ap (λ (n : ℕ). length front + n) (length-append crossed rest ∙ ap (λ (n : ℕ). n + length rest) (length_crossed ∙ sym length_stretch) ∙ sym (length-append stretch rest))
      ∙ sym (length-append front (stretch ++ rest))
      ∙ ap length (parts from 65 t)

  flipped_digits : Digits 1 flipped
  unfolding pattern
  flipped_digits =
      digits_joined 1 front (crossed ++ rest) (digits_take 1 from t digits)
      (digits_joined 1 crossed rest
      (xored_digits 1 stretch pattern even (digits_take 1 65 (drop from t) (digits_drop 1 from t digits)) (bits_of_digits 65 (2 ^ 64 + poly)))
      (digits_drop 1 (from + 65) t digits))

  -- the fold does not see it
  flipped_fold : fold_digits 1 0 flipped ≡ fold_digits 1 0 t
  flipped_fold =
      let r : ℕ = fold_digits 1 0 front in
      let unseen : fold_digits 1 r crossed ≡ fold_digits 1 r stretch =
      ap (λ (x : ℕ). fold_digits 1 x crossed) (sym (xor_zero_r r))
      ∙ digits_xor 1 r 0 stretch pattern even
      ∙ ap (λ (x : ℕ). bit_xor (fold_digits 1 r stretch) x) pattern_vanishes
      ∙ xor_zero_r (fold_digits 1 r stretch) in
      digits_append 1 0 front (crossed ++ rest)
      ∙ digits_append 1 r crossed rest
      ∙ ap (λ (x : ℕ). fold_digits 1 x rest) unseen
      ∙ sym (digits_append 1 r stretch rest)
      ∙ sym (digits_append 1 0 front (stretch ++ rest))
      ∙ ap (fold_digits 1 0) (parts from 65 t)

  flipped_at : (i : ℕ) → i < 65 → get_or flipped (from + i) 0 ≡ bit_xor (get_or t (from + i) 0) (get_or pattern i 0)
  flipped_at i h =
      ap (λ (k : ℕ). get_or flipped (k + i) 0) (sym length_front)
      ∙ get_or-append-add front (crossed ++ rest) i 0
      ∙ get_or-append crossed rest 0 i (omega (arith, length_crossed))
      ∙ xored_at stretch pattern i even
      ∙ ap (λ (x : ℕ). bit_xor x (get_or pattern i 0)) (get_or-take 65 (drop from t) i 0 h ∙ get_or-drop from t i 0)

  flipped_front : take from flipped ≡ take from t
  flipped_front = ap (λ (k : ℕ). take k flipped) (sym length_front) ∙ take-append_seam front (crossed ++ rest)

  flipped_rest : drop (from + 65) flipped ≡ drop (from + 65) t
  flipped_rest =
      ap (λ (k : ℕ). drop (k + 65) flipped) (sym length_front)
      ∙ drop-append-add front (crossed ++ rest) 65
      ∙ ap (λ (k : ℕ). drop k (crossed ++ rest)) (sym length_crossed)
      ∙ drop-append_seam crossed rest

  -- where the pattern has a 1, the bit is turned
  flipped_turns : (i : ℕ) → i < 65 → get_or pattern i 0 ≡ 1 → get_or t (from + i) 0 ≡ get_or flipped (from + i) 0 → ⊥
  flipped_turns i h set same =
      turned (get_or t (from + i) 0) (same ∙ flipped_at i h ∙ ap (λ (x : ℕ). bit_xor (get_or t (from + i) 0) x) set)

first_set : get_or pattern 0 0 ≡ 1
unfolding pattern bits_of
first_set = refl

last_set : get_or pattern 64 0 ≡ 1
unfolding pattern bits_of
last_set = refl

pub bits_65_unseen : Bits65Unseen
bits_65_unseen a from ha fits =
    let t : List ℕ = bits a in
    let digits : Digits 1 t = bits_digits a in
    let fit : from + 65 ≤ length t = subst (λ (n : ℕ). from + 65 ≤ n) (sym (length_bits a)) fits in
    let u : List ℕ = flipped t from digits fit in
    let b : List ℕ = packed (length a) u in
    let long : length u ≡ 8 * length a = flipped_length t from digits fit ∙ length_bits a in
    let made : bits b ≡ u = bits_packed (length a) u long (flipped_digits t from digits fit) in
    let bytes : Bytes b = packed_bytes_lem (length a) u (flipped_digits t from digits fit) in
    let turns : (i : ℕ) → i < 65 → get_or pattern i 0 ≡ 1 → get_or t (from + i) 0 ≡ get_or (bits b) (from + i) 0 → ⊥ =
    λ i h set same. flipped_turns t from digits fit i h set (same ∙ ap (λ (v : List ℕ). get_or v (from + i) 0) made) in
    let first-turns : get_or t from 0 ≡ get_or (bits b) from 0 → ⊥ =
    subst (λ (n : ℕ). get_or t n 0 ≡ get_or (bits b) n 0 → ⊥) (add-zero from) (turns 0 (lit< tt) first_set) in
    record {
      other = b;
      are_bytes = bytes;
      damaged = record {
        same_length = sym (flipped_length t from digits fit) ∙ ap length (sym made);
        same_front = sym (flipped_front t from digits fit) ∙ ap (take from) (sym made);
        same_rest = sym (flipped_rest t from digits fit) ∙ ap (drop (from + 65)) (sym made);
        differ = λ same. first-turns (ap (λ (v : List ℕ). get_or v from 0) same);
      };
      first = first-turns;
      last = turns 64 (lit< tt) last_set;
      same_checksum = λ sum told. told ∙ sym (fold_bits 0 a ha) ∙ sym (flipped_fold t from digits fit) ∙ ap (fold_digits 1 0) (sym made) ∙ fold_bits 0 b bytes;
    }

-- the damage on nine bytes of zeros, from their first bit on and from their eighth
from_bit_0 : checksum (0xf2 ∷ 0xa1 ∷ 0x93 ∷ 0xcb ∷ 0xb2 ∷ 0xc9 ∷ 0x3c ∷ 0x40 ∷ 0x80 ∷ []) ≡ 0
unfolding fold fold_byte steps step
from_bit_0 = refl

from_bit_7 : checksum (0x01 ∷ 0xe5 ∷ 0x43 ∷ 0x27 ∷ 0x97 ∷ 0x65 ∷ 0x92 ∷ 0x78 ∷ 0x81 ∷ []) ≡ 0
unfolding fold fold_byte steps step
from_bit_7 = refl
