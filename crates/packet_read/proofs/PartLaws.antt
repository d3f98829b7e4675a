-- What the walk over the parts keeps: where each part stands, and the first whose checksum fails. Assumes nothing.
use mathlib.Core.Path.{◌≡◌, refl, sym, ◌∙◌, ap}
use mathlib.Core.List.{List}
use Prim.Native.Nat.{ℕ, ◌+◌, ◌<◌, ◌≤◌, ◌-◌}
use native.Mathlib.Nat.{add-zero, sub-zero, add-sub_cancel_left}
use native.Mathlib.Omega.{arith}
use lib.ListN.{take, drop}
use Rattle.words.specs.Decide.{pick, ◌=?◌, first_from}
use Rattle.words.proofs.DecideLaws.{first_miss, first_hit, first_end}
use Rattle.crc64.specs.Polynomial.{checksum}
use Rattle.std.specs.declared.result.Result.{Result}
use Rattle.std.specs.declared.result.Result.TheVariants.{Ok, Err}
use Rattle.packet.specs.Layout.{null_size, headers, size, taken, taken_before, part_sum, start, whole, part}
use Rattle.packet_read.specs.Reading.{part_fails, first_failing}
use Rattle.packet_read.specs.Stages.{PartVerifies}
use Rattle.packet_read.proofs.SizeLaws.{taken_next, taken_below}

module _ (s : List ℕ) (n : ℕ) where
  pub start_first : headers n ≡ start s n 0
  unfolding taken_before
  start_first = sym (add-zero (headers n))

  pub parts_begin : first_from (part_fails s n) 0 (n - 0) ≡ first_failing s n
  parts_begin = ap (first_from (part_fails s n) 0) (sub-zero n)

  pub parts_end : (i : ℕ) → n ≤ i → i ≤ n → first_from (part_fails s n) i (n - i) ≡ first_failing s n → first_failing s n ≡ n
  parts_end i low high left =
      let same : i ≡ n = omega arith in
      sym left ∙ rw same (first_end (part_fails s n) n)

  -- part i, of which the code has the place, the size word and what it takes
  module _ (i at found more : ℕ) (place : at ≡ start s n i) (read : found ≡ size s i) (is : more ≡ pick (found =? null_size) 0 found) where
    pub start_next : at + more ≡ start s n (i + 1)
    start_next =
        let next : taken_before s i + more ≡ taken_before s (i + 1) = taken_next s i found read (taken_before s i) more refl is in
        omega arith

    part_is : take (at + more - at) (drop at s) ≡ part s n i
    part_is = rw (add-sub_cancel_left at more, place, is, read)

    -- it lies in the packet
    pub part_inside : i < n → at + more ≤ whole s n
    part_inside below =
        let here : taken_before s i + taken s i ≤ taken_before s n = taken_below s i n below in
        let takes : more ≡ taken s i = is ∙ rw read in
        omega arith

    -- and its checksum word
    module _ (stored : ℕ) (sum : stored ≡ part_sum s n i) where
      told_of_part : (v : Result (Unit {0}) ℕ) → PartVerifies found stored (take (at + more - at) (drop at s)) v → PartVerifies (size s i) (part_sum s n i) (part s n i) v
      told_of_part v told = of found stored (take (at + more - at) (drop at s)) read sum part_is told
        where
          of : (f w : ℕ) (b : List ℕ) → f ≡ size s i → w ≡ part_sum s n i → b ≡ part s n i → PartVerifies f w b v → PartVerifies (size s i) (part_sum s n i) (part s n i) v
          of f w b p q r h = rw (p, q, r) at h

      module _ (below : i < n) (left : first_from (part_fails s n) i (n - i) ≡ first_failing s n) where
        pub parts_miss : PartVerifies found stored (take (at + more - at) (drop at s)) (Ok tt) → first_from (part_fails s n) (i + 1) (n - (i + 1)) ≡ first_failing s n
        parts_miss told = sym (first_miss (part_fails s n) i n below (told_of_part (Ok tt) told)) ∙ left

        pub parts_hit : (actual : ℕ) → PartVerifies found stored (take (at + more - at) (drop at s)) (Err actual) → first_failing s n ≡ i
        parts_hit actual told = sym left ∙ first_hit (part_fails s n) i n below (told_of_part (Err actual) told).0

        pub parts_actual : (actual : ℕ) → PartVerifies found stored (take (at + more - at) (drop at s)) (Err actual) → actual ≡ checksum (part s n i)
        parts_actual actual told = (told_of_part (Err actual) told).1
