-- Laws of varints at an offset. Assumes nothing.
use mathlib.Core.Path.{◌≡◌, refl, sym}
use mathlib.Core.Bool.{Bool, true, false, ◌&&◌, true≢false}
use mathlib.Core.List.{List}
use Prim.Native.Nat.{ℕ, zero, suc, ◌+◌, ◌*◌, ◌%◌, ◌<◌, ◌≤◌}
use native.Mathlib.Omega.{arith}
use borrow.Author.Tests.{lt-ltb, le-ltb, ltb-true}
use lib.ListN.{length, get_or}
use Rattle.words.specs.Decide.{◌<?◌}
use Rattle.words.proofs.DecideLaws.{pick_case}
use Rattle.varint.specs.Varint.{size_in, value_in, varint_size, varint_at, varint_end, whole_varint}

pub size_least : (k : ℕ) (s : List ℕ) (at : ℕ) → 1 ≤ size_in k s at
unfolding size_in
size_least zero s at = omega arith
size_least (suc k) s at = pick_case (get_or s at 0 <? 128) 1 (1 + size_in k s (at + 1)) (λ (r : ℕ). 1 ≤ r) (λ e. omega arith) (λ e. omega arith)

-- the last byte, and any other
module _ (k : ℕ) (s : List ℕ) (at : ℕ) where
  pub size_last : get_or s at 0 < 128 → size_in (suc k) s at ≡ 1
  unfolding size_in
  size_last h = rw (lt-ltb (get_or s at 0) 128 h)

  pub value_last : get_or s at 0 < 128 → value_in (suc k) s at ≡ get_or s at 0
  unfolding value_in
  value_last h = rw (lt-ltb (get_or s at 0) 128 h)

  pub size_more : 128 ≤ get_or s at 0 → size_in (suc k) s at ≡ 1 + size_in k s (at + 1)
  unfolding size_in
  size_more h = rw (le-ltb (get_or s at 0) 128 h)

  pub value_more : 128 ≤ get_or s at 0 → value_in (suc k) s at ≡ get_or s at 0 % 128 + 128 * value_in k s (at + 1)
  unfolding value_in
  value_more h = rw (le-ltb (get_or s at 0) 128 h)

-- none is whole where the input does not reach to the end
pub past_input : (s : List ℕ) (at end : ℕ) → length s < end → whole_varint s at end ≡ false
past_input s at end h = rw (le-ltb end (length s + 1) (omega arith))

-- where it does, a varint is whole, or not for one of three reasons
module _ (s : List ℕ) (at end : ℕ) (there : end ≤ length s) where
  reaches : (end <? (length s + 1)) ≡ true
  reaches = lt-ltb end (length s + 1) (omega arith)

  pub whole_is : varint_end s at ≤ end → varint_size s at ≤ 10 → varint_at s at < 0x1_0000_0000_0000_0000 → whole_varint s at end ≡ true
  whole_is far ten fits =
      rw (reaches, lt-ltb (varint_end s at) (end + 1) (omega arith), lt-ltb (varint_size s at) 11 (omega arith), lt-ltb (varint_at s at) 0x1_0000_0000_0000_0000 fits)

  pub cut_off : end < varint_end s at → whole_varint s at end ≡ false
  cut_off h = rw (reaches, le-ltb (varint_end s at) (end + 1) (omega arith))

  pub too_long : varint_end s at ≤ end → 10 < varint_size s at → whole_varint s at end ≡ false
  too_long far h = rw (reaches, lt-ltb (varint_end s at) (end + 1) (omega arith), le-ltb (varint_size s at) 11 (omega arith))

  pub too_large : varint_end s at ≤ end → varint_size s at ≤ 10 → 0x1_0000_0000_0000_0000 ≤ varint_at s at → whole_varint s at end ≡ false
  too_large far ten h =
      rw (reaches, lt-ltb (varint_end s at) (end + 1) (omega arith), lt-ltb (varint_size s at) 11 (omega arith), le-ltb (varint_at s at) 0x1_0000_0000_0000_0000 h)

and_left : (a b : Bool) → (a && b) ≡ true → a ≡ true
and_left true b h = refl
and_left false b h = h

and_right : (a b : Bool) → (a && b) ≡ true → b ≡ true
and_right true b h = h
and_right false b h = absurd (true≢false (sym h))

-- a whole varint has a byte at least and ends by `end`, to which the input reaches
pub whole_end : (s : List ℕ) (at end : ℕ) → whole_varint s at end ≡ true → (at < varint_end s at) × (varint_end s at ≤ end) × (end ≤ length s)
whole_end s at end h =
    let some : 1 ≤ varint_size s at = size_least 10 s at in
    let there : end < length s + 1 = ltb-true end (length s + 1) (and_left (end <? (length s + 1)) _ h) in
    let rest : (varint_end s at <? (end + 1) && (varint_size s at <? 11 && varint_at s at <? 0x1_0000_0000_0000_0000)) ≡ true = and_right (end <? (length s + 1)) _ h in
    let far : varint_end s at < end + 1 = ltb-true (varint_end s at) (end + 1) (and_left (varint_end s at <? (end + 1)) _ rest) in
    (omega arith, omega arith, omega arith)
