-- Laws of the machine: one for each line of its lists, and what a step tells of the state before it. Assumes nothing.
use mathlib.Core.Path.{◌≡◌, refl, sym, ◌∙◌, ap}
use mathlib.Core.Logic.{◌⊎◌, inl, inr, ⊎_elim}
use Prim.Native.Nat.{ℕ, zero, suc, ◌+◌, ◌-◌, ◌*◌, ◌^◌, ◌<◌, ◌≤◌}
use native.Mathlib.Nat.{pow-succ', pow-le-pow_right, sub_self, eq-or-lt_of_le}
use native.Mathlib.Numerals.{add-one}
use native.Mathlib.Omega.{arith}
use borrow.Author.Tests.{lt-ltb, le-ltb, ne_eqb}
use Rattle.places.specs.Machine.{Move, on, off}
use Rattle.guid.specs.Guid.{guid_of}
use Rattle.words.specs.Text.{digit_of}
use Rattle.numerals.proofs.Cases.{lt_or_le, same_or_other}
use Rattle.guid_text.specs.declared.Reason.TheVariants.{Empty, TooLong, NotHex, FieldCount}
use Rattle.guid_text.specs.Fields.{dash}
use Rattle.guid_text.proofs.ValueLaws.{digit_byte, no_dash}
use Rattle.guid_text.proofs.Walk.{State, st, walk}

pub positive : (n : ℕ) → 0 < n → (n ≡ 0 → ⊥)
positive n h e = omega arith

module _ (q : State) (b : ℕ) where
  -- a dash
  pub dash_empty : b ≡ dash → q.count ≡ 0 → walk.step q b ≡ off Empty
  dash_empty d e = rw (d, e)

  pub dash_many : b ≡ dash → 0 < q.count → q.left ≡ 0 → walk.step q b ≡ off FieldCount
  dash_many d some none = rw (d, ne_eqb q.count 0 (positive _ some), none)

  pub dash_on : b ≡ dash → 0 < q.count → 0 < q.left → walk.step q b ≡ on (st (q.left - 1) 0 0 q.w0 q.w1 q.w2)
  dash_on d some more = rw (d, ne_eqb q.count 0 (positive _ some), ne_eqb q.left 0 (positive _ more))

  -- with the place behind the dash at hand, from which the next count is taken
  pub dash_at : (at : ℕ) → b ≡ dash → 0 < q.count → 0 < q.left → walk.step q b ≡ on (st (q.left - 1) (at - at) 0 q.w0 q.w1 q.w2)
  dash_at at d some more = rw (sub_self at) (dash_on d some more)

  pub dash_next : (l : ℕ) → b ≡ dash → 0 < q.count → q.left ≡ suc l → walk.step q b ≡ on (st l 0 0 q.w0 q.w1 q.w2)
  dash_next l d some e =
      let fewer : q.left - 1 ≡ l = omega arith in
      dash_on d some (omega arith) ∙ ap (λ (k : ℕ). on (st k 0 0 q.w0 q.w1 q.w2)) fewer

  -- another byte
  pub other_long : (b ≡ dash → ⊥) → 7 < q.count → walk.step q b ≡ off TooLong
  other_long d full = rw (ne_eqb b dash d, lt-ltb 7 q.count full)

  pub other_wrong : (b ≡ dash → ⊥) → q.count ≤ 7 → 15 < digit_of b → walk.step q b ≡ off NotHex
  other_wrong d room bad = rw (ne_eqb b dash d, le-ltb 7 q.count room, lt-ltb 15 (digit_of b) bad)

  pub other_on : (b ≡ dash → ⊥) → q.count ≤ 7 → digit_of b ≤ 15 → walk.step q b ≡ on (st q.left (q.count + 1) (q.w0 * 16 + digit_of b) q.w1 q.w2 q.w3)
  other_on d room good = rw (ne_eqb b dash d, le-ltb 7 q.count room, le-ltb 15 (digit_of b) good)

  -- with the digit's value and the next count at hand
  pub other_next : (value next : ℕ) → value ≡ digit_of b → next ≡ q.count + 1 → value ≤ 15 → q.count ≤ 7
      → walk.step q b ≡ on (st q.left next (q.w0 * 16 + value) q.w1 q.w2 q.w3)
  other_next value next e more good room =
      let fine : digit_of b ≤ 15 = omega arith in
      rw (e, more) (other_on (no_dash b (digit_byte b fine)) room fine)

-- the end
module _ (q : State) where
  pub end_empty : q.count ≡ 0 → walk.close q ≡ off Empty
  end_empty e = rw e

  pub end_few : 0 < q.count → 0 < q.left → walk.close q ≡ off FieldCount
  end_few some more = rw (ne_eqb q.count 0 (positive _ some), lt-ltb 0 q.left more)

  pub end_read : 0 < q.count → q.left ≡ 0 → walk.close q ≡ on (guid_of q.w0 q.w1 q.w2 q.w3)
  end_read some none = rw (ne_eqb q.count 0 (positive _ some), none)

-- which line decides
pub data Step (q : State) (b : ℕ) : Type 0 where
  empty : b ≡ dash → q.count ≡ 0 → walk.step q b ≡ off Empty → Step q b
  many : b ≡ dash → 0 < q.count → q.left ≡ 0 → walk.step q b ≡ off FieldCount → Step q b
  at_dash_lem : b ≡ dash → 0 < q.count → 0 < q.left → walk.step q b ≡ on (st (q.left - 1) 0 0 q.w0 q.w1 q.w2) → Step q b
  long : (b ≡ dash → ⊥) → 7 < q.count → walk.step q b ≡ off TooLong → Step q b
  no_digit : (b ≡ dash → ⊥) → q.count ≤ 7 → 15 < digit_of b → walk.step q b ≡ off NotHex → Step q b
  digit : (b ≡ dash → ⊥) → q.count ≤ 7 → digit_of b ≤ 15 → walk.step q b ≡ on (st q.left (q.count + 1) (q.w0 * 16 + digit_of b) q.w1 q.w2 q.w3) → Step q b

zero_or_more : (n : ℕ) → (0 < n) ⊎ (n ≡ 0)
zero_or_more zero = inr refl
zero_or_more (suc n) = inl (omega arith)

pub stepped : (q : State) (b : ℕ) → Step q b
stepped q b =
    ⊎_elim
    (λ (d : b ≡ dash). ⊎_elim
    (λ (some : 0 < q.count). ⊎_elim (λ (more : 0 < q.left). at_dash_lem d some more (dash_on q b d some more)) (λ (none : q.left ≡ 0). many d some none (dash_many q b d some none)) (zero_or_more q.left))
    (λ (e : q.count ≡ 0). empty d e (dash_empty q b d e))
    (zero_or_more q.count))
    (λ (d : b ≡ dash → ⊥). ⊎_elim
    (λ (full : 7 < q.count). long d full (other_long q b d full))
    (λ (room : q.count ≤ 7). ⊎_elim (λ (bad : 15 < digit_of b). no_digit d room bad (other_wrong q b d room bad)) (λ (good : digit_of b ≤ 15). digit d room good (other_on q b d room good)) (lt_or_le 15 (digit_of b)))
    (lt_or_le 7 q.count))
    (same_or_other b dash)

pub data End (q : State) : Type 0 where
  empty_end : q.count ≡ 0 → walk.close q ≡ off Empty → End q
  few : 0 < q.count → 0 < q.left → walk.close q ≡ off FieldCount → End q
  whole : 0 < q.count → q.left ≡ 0 → walk.close q ≡ on (guid_of q.w0 q.w1 q.w2 q.w3) → End q

pub ended : (q : State) → End q
ended q =
    ⊎_elim
    (λ (some : 0 < q.count). ⊎_elim (λ (more : 0 < q.left). few some more (end_few q some more)) (λ (none : q.left ≡ 0). whole some none (end_read q some none)) (zero_or_more q.left))
    (λ (e : q.count ≡ 0). empty_end e (end_empty q e))
    (zero_or_more q.count)

-- a move is one of two
pub on_not_off : {S R : Type 0} (x : Move S R) (q : S) (r : R) → x ≡ on q → x ≡ off r → ⊥
on_not_off x q r e f = let z : ◌≡◌ {A = ℕ} 0 1 = cc in omega arith

pub same_off : {S R : Type 0} (x : Move S R) (r r' : R) → x ≡ off r → x ≡ off r' → r ≡ r'
same_off x r r' e f = cc

-- the number of so many digits, and one more of them
pub word_more : (n count next value : ℕ) → next ≡ count + 1 → n < 16 ^ count → value ≤ 15 → n * 16 + value < 16 ^ next
word_more n count next value more below good = rw (more, add-one count) (rw (pow-succ' 16 count) (omega arith))

pub word_fits : (n count value : ℕ) → n < 16 ^ count → count ≤ 7 → value ≤ 15 → n * 16 + value < 2 ^ 32
word_fits n count value below room good =
    omega (arith, word_more n count (count + 1) value refl below good, pow-le-pow_right {n = 16} (omega arith) {i = count + 1} {j = 8} (omega arith))

-- no digit yet
pub word_none : (at : ℕ) → 0 < 16 ^ (at - at)
word_none at = rw (sub_self at) (omega arith)

-- a field that does not begin here has a byte
pub apart : (at from : ℕ) → from ≤ at → (at ≡ from → ⊥) → 0 < at - from
apart at from low other = ⊎_elim (λ (e : from ≡ at). absurd (other (sym e))) (λ (h : from < at). omega arith) (eq-or-lt_of_le low)
