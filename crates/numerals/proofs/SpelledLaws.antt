-- Laws of a number spelled in a base: how many digits it has, and how they are written from the last one on. Assumes nothing.
use mathlib.Core.Path.{◌≡◌, refl, sym, ◌∙◌, ap}
use mathlib.Core.List.{List, [], ◌∷◌, ◌++◌}
use mathlib.Core.Logic.{⊎_elim}
use Prim.Native.Nat.{ℕ, zero, suc, ◌+◌, ◌-◌, ◌*◌, ◌/◌, ◌%◌, ◌^◌, ◌<◌, ◌≤◌}
use native.Mathlib.Nat.{pow-zero, pow-succ', mul-one, mul_comm, mod-eq_of_lt, div-lt_iff_lt-mul}
use native.Mathlib.Omega.{arith}
use borrow.Author.Tests.{lt-ltb, le-ltb}
use lib.Pow.{pow_mono, pow-add}
use lib.Count.{count_leading_zeros, leading_length}
use lib.ListN.{length, set, drop, length-append, length-set}
use lib.Seq.{drop-cons, get_or-set_same, drop-set-lt, append_snoc}
use Rattle.words.specs.Buffer.{over, fitted}
use Rattle.words.specs.Text.{digit, spelled}
use Rattle.words.proofs.BufferLaws.{fitted_fits}
use Rattle.numerals.specs.Statement.{hex, decimal}
use Rattle.numerals.proofs.Cases.{lt_or_le}

-- the shapes of a spelling
pub spelled_none : (base n : ℕ) → spelled base 0 n ≡ []
unfolding spelled
spelled_none base n = refl

pub spelled_one : (base k n : ℕ) → n < base → spelled base (suc k) n ≡ digit n ∷ []
unfolding spelled
spelled_one base k n h = rw (lt-ltb n base h)

pub spelled_more : (base k n : ℕ) → base ≤ n → spelled base (suc k) n ≡ spelled base k (n / base) ++ digit (n % base) ∷ []
unfolding spelled
spelled_more base k n h = rw (le-ltb n base h)

pub length_spelled_most : (base k n : ℕ) → length (spelled base k n) ≤ k
length_spelled_most base zero n = rw (spelled_none base n) (omega arith)
length_spelled_most base (suc k) n =
    ⊎_elim
    (λ (small : n < base). rw (spelled_one base k n small) (omega arith))
    (λ (big : base ≤ n). rw (spelled_more base k n big) (simp length-append (omega (arith, length_spelled_most base k (n / base)))))
    (lt_or_le n base)

pub length_spelled_least : (base k n : ℕ) → 0 < length (spelled base (suc k) n)
length_spelled_least base k n =
    ⊎_elim
    (λ (small : n < base). rw (spelled_one base k n small) (omega arith))
    (λ (big : base ≤ n). rw (spelled_more base k n big) (simp length-append (omega arith)))
    (lt_or_le n base)

-- a number below base ^ (suc k), without its last digit
pub digits_left : (base k n : ℕ) → 0 < base → n < base ^ suc k → n / base < base ^ k
digits_left base k n some h = (div-lt_iff_lt-mul some).1 (rw (mul_comm (base ^ k) base, ← pow-succ' base k) h)

-- In hex: a number of m bits, its highest one set, has a digit for each four of them.
length_hex : (k n m : ℕ) → 0 < m → m ≤ 4 * k → n < 2 ^ m → 2 ^ m ≤ 2 * n + 1 → length (spelled 16 k n) ≡ (m + 3) / 4
length_hex zero n m some most below above = absurd (omega arith)
length_hex (suc k) n m some most below above =
    ⊎_elim
    (λ (small : n < 16). ⊎_elim
    (λ (few : m < 5). rw (spelled_one 16 k n small) (omega arith))
    (λ (many : 5 ≤ m). absurd (omega (arith, pow_mono {i = 5} {j = m} many)))
    (lt_or_le m 5))
    (λ (big : 16 ≤ n). ⊎_elim
    (λ (few : m < 5). absurd (omega (arith, pow_mono {i = m} {j = 4} (omega arith))))
    (λ (many : 5 ≤ m).
    let split : 2 ^ m ≡ 2 ^ (m - 4) * 16 = ap (λ (x : ℕ). 2 ^ x) (omega arith) ∙ pow-add 2 (m - 4) 4 in
    let rest : length (spelled 16 k (n / 16)) ≡ (m - 4 + 3) / 4 = length_hex k (n / 16) (m - 4) (omega arith) (omega arith) (omega arith) (omega arith) in
    rw (spelled_more 16 k n big) (simp length-append (omega arith)))
    (lt_or_le m 5))
    (lt_or_le n 16)

-- The count of leading zeros gives the count of digits, at least one.
module _ (w : ℕ) (fits : w < 2 ^ 32) where
  pub zeros_most : count_leading_zeros 32 w ≤ 32
  zeros_most = let bits = leading_length 32 w fits in omega arith

  pub no_digit_counted : (35 - count_leading_zeros 32 w) / 4 ≡ 0 → 1 ≡ length (hex w)
  no_digit_counted none =
      let bits = leading_length 32 w fits in
      let empty : bits.0 ≡ 0 = omega arith in
      let nothing : w ≡ 0 = omega (arith, ap (λ (x : ℕ). 2 ^ x) empty) in
      rw nothing (ap length (sym (spelled_one 16 7 0 (omega arith))))

  pub digits_counted : ((35 - count_leading_zeros 32 w) / 4 ≡ 0 → ⊥) → (35 - count_leading_zeros 32 w) / 4 ≡ length (hex w)
  digits_counted some =
      let bits = leading_length 32 w fits in
      let one : 0 < bits.0 = ⊎_elim (λ (none : bits.0 < 1). absurd (some (omega arith))) (λ (any : 1 ≤ bits.0). any) (lt_or_le bits.0 1) in
      let count : length (hex w) ≡ (bits.0 + 3) / 4 = length_hex 8 w bits.0 one (omega arith) bits.2 bits.3 in
      omega arith

-- A number of more than one digit has one more than what is left of it.
pub one_digit_more : (base most n : ℕ) → 0 < base → base ≤ n → n < base ^ most
    → (1 < most) × (n / base < base ^ (most - 1)) × (length (spelled base most n) ≡ length (spelled base (most - 1) (n / base)) + 1)
one_digit_more base zero n some big fits = absurd (omega (arith, pow-zero base))
one_digit_more base (suc zero) n some big fits = let one : base ^ 1 ≡ base = pow-succ' base 0 ∙ ap (λ (x : ℕ). base * x) (pow-zero base) ∙ mul-one base in absurd (omega (arith, one))
one_digit_more base (suc (suc k)) n some big fits =
    let one_less : suc (suc k) - 1 ≡ suc k = omega arith in
    (omega arith, rw one_less (digits_left base (suc k) n some fits), rw (one_less, spelled_more base (suc k) n big) (length-append (spelled base (suc k) (n / base)) (digit (n % base) ∷ [])))

-- counting the decimal digits of a number: `count` so far, the rest among them with one
pub record Counted (number count rest : ℕ) : Type 0 where
  pub some : 1 ≤ count
  pub few : count ≤ 20
  pub fits : rest < 10 ^ (21 - count)
  pub makes : length (spelled 10 (21 - count) rest) + count ≡ length (decimal number) + 1

pub counting : (number : ℕ) → number < 2 ^ 64 → Counted number 1 number
counting number fits = record { some = omega arith; few = omega arith; fits = omega arith; makes = refl }

pub counted_more : {number count rest : ℕ} → Counted number count rest → 10 ≤ rest → Counted number (count + 1) (rest / 10)
counted_more {number} {count} {rest} c big =
    let more = one_digit_more 10 (21 - count) rest (omega arith) big c.fits in
    let one_less : 21 - (count + 1) ≡ 21 - count - 1 = omega arith in
    record { some = omega arith; few = omega (arith, more.0); fits = rw one_less more.1; makes = rw one_less (omega (arith, more.2, c.makes)) }

pub counted_all : {number count rest : ℕ} → Counted number count rest → rest < 10 → count ≡ length (decimal number)
counted_all {number} {count} {rest} c small =
    let one : 21 - count ≡ suc (20 - count) = omega (arith, c.few) in
    let alone : length (spelled 10 (21 - count) rest) ≡ 1 = rw (one, spelled_one 10 (20 - count) rest small) in
    omega (arith, c.makes, alone)

-- the k lowest digits, highest first
unfoldable pub lowest : ℕ → ℕ → ℕ → List ℕ
lowest base zero n = []
lowest base (suc k) n = lowest base k (n / base) ++ digit (n % base) ∷ []

pub length_lowest : (base k n : ℕ) → length (lowest base k n) ≡ k
unfolding lowest
length_lowest base zero n = refl
length_lowest base (suc k) n = simp (length-append, length_lowest base k (n / base)) (omega arith)

-- a spelling is as many of the lowest digits as it is long
pub spelled_lowest : (base k n : ℕ) → 0 < base → n < base ^ k → spelled base k n ≡ lowest base (length (spelled base k n)) n
unfolding lowest
spelled_lowest base zero n some h = rw (spelled_none base n)
spelled_lowest base (suc k) n some h =
    ⊎_elim
    (λ (small : n < base). rw (spelled_one base k n small, mod-eq_of_lt small))
    (λ (big : base ≤ n).
    let rest : spelled base k (n / base) ≡ lowest base (length (spelled base k (n / base))) (n / base) =
    spelled_lowest base k (n / base) some (digits_left base k n some h) in
    let long : length (spelled base k (n / base) ++ digit (n % base) ∷ []) ≡ suc (length (spelled base k (n / base))) = simp length-append (omega arith) in
    rw (spelled_more base k n big, long, ← rest))
    (lt_or_le n base)

-- one digit stored, the others still to come
store_digit : (base : ℕ) (xs : List ℕ) (k n : ℕ) → k < length xs
    → over (lowest base k (n / base)) (set xs k (digit (n % base))) ≡ over (lowest base (suc k) n) xs
unfolding lowest
store_digit base xs k n h =
    let d : ℕ = digit (n % base) in
    let l : List ℕ = lowest base k (n / base) in
    let short : length l ≡ k = length_lowest base k (n / base) in
    let long : length (l ++ d ∷ []) ≡ suc k = simp (length-append, short) (omega arith) in
    let room : k < length (set xs k d) = rw (length-set xs k d) h in
    let stored : drop k (set xs k d) ≡ d ∷ drop (suc k) xs =
    drop-cons (set xs k d) k 0 room ∙ rw (get_or-set_same xs k d 0 h, drop-set-lt (suc k) xs k d (omega arith)) in
    rw (short, stored, long) (sym (append_snoc l d (drop (suc k) xs)))

-- Storing the digits of a number, the last one first: over an output that held `before`, `left` of them are still to come from `rest`.
pub record Storing (base : ℕ) (digits before now : List ℕ) (left rest : ℕ) : Type 0 where
  pub same_length : length now ≡ length before
  pub room : left ≤ length before
  pub comes : over (lowest base left rest) now ≡ over digits before

pub storing : (base most n count : ℕ) (xs : List ℕ) → 0 < base → n < base ^ most → count ≡ length (spelled base most n) → count ≤ length xs
    → Storing base (spelled base most n) xs xs count n
storing base most n count xs some fits e room =
    let all : lowest base count n ≡ spelled base most n = rw e (sym (spelled_lowest base most n some fits)) in
    record { same_length = refl; room = room; comes = ap (λ (ws : List ℕ). over ws xs) all }

pub digit_stored : {base : ℕ} {digits before now : List ℕ} {left rest : ℕ} (d : ℕ) → Storing base digits before now left rest → 0 < left
    → d ≡ digit (rest % base) → Storing base digits before (set now (left - 1) d) (left - 1) (rest / base)
digit_stored {base} {digits} {before} {now} {left} {rest} d s some e =
    let one_more : left ≡ suc (left - 1) = omega arith in
    record {
      same_length = length-set now (left - 1) d ∙ s.same_length;
      room = omega (arith, s.room);
      comes = rw e (store_digit base now (left - 1) rest (omega (arith, s.same_length, s.room)) ∙ ap (λ (k : ℕ). over (lowest base k rest) now) (sym one_more)) ∙ s.comes;
    }

pub digits_stored : {base : ℕ} {digits before now : List ℕ} {left rest : ℕ} → Storing base digits before now left rest → left ≤ 0
    → length digits ≤ length before → now ≡ fitted digits before
unfolding lowest
digits_stored {base} {digits} {before} {now} {left} {rest} s none fits =
    let nothing : left ≡ 0 = omega arith in
    let alone : over (lowest base left rest) now ≡ now = rw nothing in
    sym alone ∙ s.comes ∙ sym (fitted_fits digits before fits)
