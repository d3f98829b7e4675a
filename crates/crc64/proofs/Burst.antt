-- Damage that lies within 64 consecutive bits changes the checksum: said of digits of w bits, so that it holds of eight consecutive
-- bytes and of 64 consecutive bits. Assumes nothing.
use mathlib.Core.Path.{◌≡◌, sym, ap, ap₂, ◌∙◌}
use mathlib.Core.List.{List, [], ◌∷◌, ◌++◌}
use Prim.Native.Nat.{ℕ, zero, suc, ◌+◌, ◌-◌, ◌*◌, ◌^◌, ◌≤◌, ◌<◌, min}
use native.Mathlib.Nat.{le_trans, mul-le-mul_left}
use native.Mathlib.Omega.{arith}
use lib.ListN.{length, take, drop, length-take, length-drop, take-append-drop}
use lib.Seq.{get_or-drop, drop-drop}
use lib.Pow.{pow_pos}
use Rattle.words.specs.Word.{Bytes}
use Rattle.crc64.specs.Damage.{Damaged}
use Rattle.crc64.proofs.Digits.{fold_digits, Digits, tail_digits, digits_append, digits_in_64, digits_injective, stretch_injective}

-- ---- parts of a string of digits

pub digits_take : (w n : ℕ) (s : List ℕ) → Digits w s → Digits w (take n s)
digits_take w zero s h i = pow_pos w
digits_take w (suc n) [] h i = pow_pos w
digits_take w (suc n) (b ∷ s) h zero = h 0
digits_take w (suc n) (b ∷ s) h (suc i) = digits_take w n s (tail_digits w b s h) i

pub digits_drop : (w n : ℕ) (s : List ℕ) → Digits w s → Digits w (drop n s)
digits_drop w n s h i = rw get_or-drop (h (n + i))

pub bytes_take : (n : ℕ) (s : List ℕ) → Bytes s → Bytes (take n s)
bytes_take = digits_take 8

pub bytes_drop : (n : ℕ) (s : List ℕ) → Bytes s → Bytes (drop n s)
bytes_drop = digits_drop 8

-- ---- the burst

-- a string is what stands before the stretch, the stretch, and what follows it
pub parts : (at n : ℕ) (s : List ℕ) → take at s ++ (take n (drop at s) ++ drop (at + n) s) ≡ s
parts at n s = ap (λ (t : List ℕ). take at s ++ (take n (drop at s) ++ t)) (sym (drop-drop n at s))
    ∙ ap (λ (t : List ℕ). take at s ++ t) (take-append-drop n (drop at s)) ∙ take-append-drop at s

fold_parts : (w at n r : ℕ) (s : List ℕ)
    → fold_digits w r s ≡ fold_digits w (fold_digits w (fold_digits w r (take at s)) (take n (drop at s))) (drop (at + n) s)
fold_parts w at n r s =
    ap (fold_digits w r) (sym (parts at n s))
    ∙ digits_append w r (take at s) (take n (drop at s) ++ drop (at + n) s)
    ∙ digits_append w (fold_digits w r (take at s)) (take n (drop at s)) (drop (at + n) s)

-- two strings of one length that differ, and only inside one run of digits that has at most 64 bits, leave different registers
pub digits_burst : (w r : ℕ) {at n : ℕ} {a b : List ℕ} → 0 < w → r < 2 ^ 64 → w * n ≤ 64 → Damaged at n a b → Digits w a → Digits w b
    → fold_digits w r a ≡ fold_digits w r b → ⊥
digits_burst w r {at} {n} {a} {b} some hr few d ha hb same =
    let stretch : List ℕ → List ℕ = λ s. take n (drop at s) in
    let front : ℕ = fold_digits w r (take at a) in
    let below : front < 2 ^ 64 = digits_in_64 w r (take at a) some hr in
    let count : length (stretch a) ≤ n = omega (arith, length-take n (drop at a)) in
    let short : w * length (stretch a) ≤ 64 = le_trans (mul-le-mul_left w count) few in
    let even : length (stretch a) ≡ length (stretch b) =
    length-take n (drop at a) ∙ ap (min n) (length-drop at a ∙ ap (λ (k : ℕ). k - at) d.same_length ∙ sym (length-drop at b))
    ∙ sym (length-take n (drop at b)) in
    let after : List ℕ → ℕ = fold_digits w front in
    let one-rest : fold_digits w (after (stretch a)) (drop (at + n) a) ≡ fold_digits w (after (stretch b)) (drop (at + n) a) =
    sym (fold_parts w at n r a) ∙ same ∙ fold_parts w at n r b
    ∙ ap₂ (λ (t u : List ℕ). fold_digits w (fold_digits w (fold_digits w r t) (stretch b)) u) (sym d.same_front) (sym d.same_rest) in
    let one-front : after (stretch a) ≡ after (stretch b) =
    digits_injective w (drop (at + n) a) (digits_in_64 w front (stretch a) some below) (digits_in_64 w front (stretch b) some below) one-rest in
    let one-stretch : stretch a ≡ stretch b =
    stretch_injective w front (stretch a) (stretch b) short even
    (digits_take w n (drop at a) (digits_drop w at a ha)) (digits_take w n (drop at b) (digits_drop w at b hb)) one-front in
    d.differ
    (sym (parts at n a)
    ∙ ap₂ (λ (t u : List ℕ). t ++ (stretch a ++ u)) d.same_front d.same_rest
    ∙ ap (λ (t : List ℕ). take at b ++ (t ++ drop (at + n) b)) one-stretch
    ∙ parts at n b)
