-- Laws of reading a varint: what was read so far, and what is still to come from `at` on, is the whole. Assumes nothing.
use mathlib.Core.Path.{◌≡◌, refl, sym, ◌∙◌, ap}
use mathlib.Core.List.{List}
use Prim.Native.Nat.{ℕ, zero, suc, ◌+◌, ◌*◌, ◌%◌, ◌^◌, ◌<◌, ◌≤◌, ◌-◌}
use native.Mathlib.Nat.{mul-le-mul_left, mul_assoc, mul-one, mul-add, pow-succ'}
use native.Mathlib.Omega.{arith}
use borrow.Author.Tests.{ltb-true, ltb-false}
use lib.ListN.{length, get_or}
use Rattle.words.specs.Decide.{◌<?◌}
use Rattle.words.proofs.DecideLaws.{pick_case}
use Rattle.varint.specs.Varint.{size_in, value_in, varint_at, varint_end}
use Rattle.varint.specs.Statement.{ReadsVarint}
use Rattle.std.specs.declared.option.Option.TheVariants.{Some, None}
use Rattle.varint.proofs.VarintLaws.{size_least, size_last, value_last, size_more, value_more, whole_is, cut_off, too_long, too_large}

-- `left` bytes and a last one may still come
pub record Running (s : List ℕ) (start at value weight left : ℕ) : Type 0 where
  pub placed : at + left ≡ start + 9
  pub weighs : weight * 128 ^ left ≡ 0x8000_0000_0000_0000
  pub below : value < weight
  pub ends : varint_end s start ≡ at + size_in (suc left) s at
  pub sum : value + weight * value_in (suc left) s at ≡ varint_at s start

cases : {P : Type 0} (a b : ℕ) → (a < b → P) → (b ≤ a → P) → P
cases {P} a b f g = pick_case (a <? b) 0 1 (λ (n : ℕ). P) (λ e. f (ltb-true a b e)) (λ e. g (ltb-false a b e))

pow_least : (k : ℕ) → 1 ≤ 128 ^ k
pow_least zero = omega arith
pow_least (suc k) = let h : 1 ≤ 128 ^ k = pow_least k in rw pow-succ' (omega arith)

pub running : (s : List ℕ) (start : ℕ) → Running s start start 0 1 9
running s start = record { placed = refl; weighs = refl; below = omega arith; ends = refl; sum = omega arith }

module _ {s : List ℕ} {start at value weight left : ℕ} (r : Running s start at value weight left) where
  pub light : weight ≤ 0x8000_0000_0000_0000
  light =
      let h : weight * 1 ≤ weight * 128 ^ left = mul-le-mul_left weight (pow_least left) in
      let e : weight * 1 ≡ weight = mul-one weight in
      omega (arith, r.weighs)

  pub lighter : 0 < left → weight * 128 * 128 ^ (left - 1) ≡ 0x8000_0000_0000_0000
  lighter h =
      let one : left ≡ suc (left - 1) = omega arith in
      mul_assoc weight 128 (128 ^ (left - 1)) ∙ ap (λ (p : ℕ). weight * p) (sym (pow-succ' 128 (left - 1)) ∙ ap (λ (k : ℕ). 128 ^ k) (sym one)) ∙ r.weighs

  pub room : 0 < left → weight * 128 ≤ 0x8000_0000_0000_0000
  room h =
      let p : weight * 128 * 1 ≤ weight * 128 * 128 ^ (left - 1) = mul-le-mul_left (weight * 128) (pow_least (left - 1)) in
      let e : weight * 128 * 1 ≡ weight * 128 = mul-one (weight * 128) in
      omega (arith, lighter h)

  -- a group more
  pub scaled : (d n : ℕ) → d ≤ n → weight * d ≤ weight * n
  scaled d n h = mul-le-mul_left weight h

  pub stops : (end : ℕ) → end ≤ length s → end ≤ at → ReadsVarint s start end None
  stops end there h = let one : 1 ≤ size_in (suc left) s at = size_least (suc left) s at in cut_off s start end there (omega (arith, r.ends))

  module _ (end byte : ℕ) (there : end ≤ length s) (more : at < end) (is : byte ≡ get_or s at 0) where
    pub last_whole : byte < 128 → value + weight * byte < 0x1_0000_0000_0000_0000 → ReadsVarint s start end (Some record { value = value + weight * byte; next = at + 1 })
    last_whole h fits =
        let b : get_or s at 0 < 128 = rw is at h in
        let one : size_in (suc left) s at ≡ 1 = size_last left s at b in
        let v : value + weight * byte ≡ varint_at s start = ap (λ (n : ℕ). value + weight * n) (is ∙ sym (value_last left s at b)) ∙ r.sum in
        (whole_is s start end there (omega (arith, r.ends)) (omega (arith, r.ends, r.placed)) (omega arith), v, omega (arith, r.ends))

    pub runs : 0 < left → 128 ≤ byte → byte < 256 → Running s start (at + 1) (value + weight * (byte - 128)) (weight * 128) (left - 1)
    runs some h high =
        let b : 128 ≤ get_or s at 0 = rw is at h in
        let one : suc (left - 1) ≡ left = omega arith in
        let group : byte - 128 ≡ get_or s at 0 % 128 = omega arith in
        let low : weight * (byte - 128) ≤ weight * 127 = scaled (byte - 128) 127 (omega arith) in
        let size : size_in (suc left) s at ≡ 1 + size_in left s (at + 1) = size_more left s at b in
        let tail : ℕ = value_in left s (at + 1) in
        let val : value_in (suc left) s at ≡ get_or s at 0 % 128 + 128 * tail = value_more left s at b in
        let spread : weight * (byte - 128) + weight * 128 * tail ≡ weight * value_in (suc left) s at =
        rw (group, val, mul-add weight (get_or s at 0 % 128) (128 * tail), mul_assoc weight 128 tail) in
        record {
          placed = omega (arith, r.placed);
          weighs = lighter some;
          below = omega (arith, r.below);
          ends = rw one (omega (arith, r.ends));
          sum = rw one (omega (arith, r.sum));
        }

  module _ (none : left ≤ 0) where
    weight_is : weight ≡ 0x8000_0000_0000_0000
    weight_is = let z : left ≡ 0 = omega arith in sym (mul-one weight) ∙ rw z at r.weighs

    pub last_broken : (end byte : ℕ) → end ≤ length s → at < end → byte ≡ get_or s at 0 → 1 < byte → ReadsVarint s start end None
    unfolding size_in
    last_broken end byte there more is h =
        let z : left ≡ 0 = omega arith in
        let ends : varint_end s start ≡ at + size_in 1 s at = rw z at r.ends in
        let sum : value + 0x8000_0000_0000_0000 * value_in 1 s at ≡ varint_at s start = rw (z, weight_is) at r.sum in
        cases end (varint_end s start) (cut_off s start end there) (λ far.
        cases byte 128
        (λ low.
        let b : get_or s at 0 < 128 = rw is at low in
        let size : size_in 1 s at ≡ 1 = size_last 0 s at b in
        let val : value_in 1 s at ≡ get_or s at 0 = value_last 0 s at b in
        too_large s start end there far (omega (arith, r.placed)) (omega arith))
        (λ high.
        let size : size_in 1 s at ≡ 2 = size_more 0 s at (rw is at high) in
        too_long s start end there far (omega (arith, r.placed))))
