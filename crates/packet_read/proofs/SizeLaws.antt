-- Where parts stand, and what the walks over the sizes keep. Assumes nothing.
use mathlib.Core.Path.{◌≡◌, sym, ◌∙◌, ap}
use mathlib.Core.Bool.{Bool, true, false, not, ◌&&◌}
use mathlib.Core.List.{List}
use Prim.Native.Nat.{ℕ, zero, suc, ◌+◌, ◌<◌, ◌≤◌, ◌-◌}
use native.Mathlib.Nat.{add-zero, sub-zero}
use native.Mathlib.Numerals.{add-one}
use native.Mathlib.Omega.{arith}
use borrow.Author.Tests.{ltb-false}
use Rattle.words.specs.Decide.{pick, ◌=?◌, ◌<?◌, first_from}
use Rattle.words.proofs.DecideLaws.{first_miss, first_hit, first_end}
use Rattle.packet.specs.Layout.{null_size, largest_part, size, taken, taken_before}
use Rattle.packet_read.specs.Reading.{too_large, first_too_large}

module _ (s : List ℕ) where
  -- one part more
  pub taken_more : (i : ℕ) → taken_before s (i + 1) ≡ taken_before s i + taken s i
  unfolding taken_before
  taken_more i = rw (add-one i)

  -- earlier parts begin earlier
  pub taken_grows : (i k : ℕ) → taken_before s i ≤ taken_before s (i + k)
  unfolding taken_before
  taken_grows i zero = rw (add-zero i) (omega arith)
  taken_grows i (suc k) =
      let next : taken_before s (i + k + 1) ≡ taken_before s (i + k) + taken s (i + k) = taken_more (i + k) in
      let same : i + suc k ≡ i + k + 1 = omega arith in
      rw same (omega (arith, taken_grows i k))

  pub taken_below : (i n : ℕ) → i < n → taken_before s i + taken s i ≤ taken_before s n
  taken_below i n h =
      let same : i + 1 + (n - (i + 1)) ≡ n = omega arith in
      rw (← taken_more i) (rw same at (taken_grows (i + 1) (n - (i + 1))))

  -- a size word that was read, and what the code says of it
  module _ (i found : ℕ) (read : found ≡ size s i) where
    pub taken_next : (so_far more : ℕ) → so_far ≡ taken_before s i → more ≡ pick (found =? null_size) 0 found → so_far + more ≡ taken_before s (i + 1)
    taken_next so_far more e is = rw (e, is, read) (sym (taken_more i))

    module _ (large : Bool) (is : large ≡ (not (found =? null_size) && largest_part <? found)) where
      large_is : large ≡ too_large s i
      large_is = is ∙ rw read

      pub taken_small : (more : ℕ) → more ≡ pick (found =? null_size) 0 found → large ≡ false → more ≤ largest_part
      taken_small more taken_is small = rw taken_is (go (found =? null_size) (sym is ∙ small))
        where
          go : (b : Bool) → (not b && largest_part <? found) ≡ false → pick b 0 found ≤ largest_part
          go true e = omega arith
          go false e = ltb-false largest_part found e

      pub sizes_hit : (n : ℕ) → i < n → large ≡ true → first_from (too_large s) i (n - i) ≡ first_too_large s n → first_too_large s n ≡ i
      sizes_hit n below hit left = sym left ∙ first_hit (too_large s) i n below (sym large_is ∙ hit)

      pub sizes_miss : (n : ℕ) → i < n → large ≡ false → first_from (too_large s) i (n - i) ≡ first_too_large s n
          → first_from (too_large s) (i + 1) (n - (i + 1)) ≡ first_too_large s n
      sizes_miss n below miss left = sym (first_miss (too_large s) i n below (sym large_is ∙ miss)) ∙ left

  pub sizes_begin : (n : ℕ) → first_from (too_large s) 0 (n - 0) ≡ first_too_large s n
  sizes_begin n = ap (first_from (too_large s) 0) (sub-zero n)

  pub sizes_end : (i n : ℕ) → n ≤ i → i ≤ n → first_from (too_large s) i (n - i) ≡ first_too_large s n → first_too_large s n ≡ n
  sizes_end i n low high left =
      let same : i ≡ n = omega arith in
      sym left ∙ rw same (first_end (too_large s) n)
