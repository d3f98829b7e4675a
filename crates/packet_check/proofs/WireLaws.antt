-- Laws of a packet's bytes: how many each piece has, and what a table that passes the checks names. Assumes nothing.
use mathlib.Core.Path.{◌≡◌, refl, ◌∙◌, ap}
use mathlib.Core.Bool.{Bool, true, false}
use mathlib.Core.List.{List}
use Prim.Native.Nat.{ℕ, zero, suc, ◌+◌, ◌-◌, ◌<◌, ◌≤◌}
use native.Mathlib.Omega.{arith}
use lib.ListN.{length, drop, length-append, length-drop}
use lib.Seq.{length-take-le}
use borrow.Author.Tests.{ltb-false}
use Rattle.words.proofs.DecideLaws.{first_none}
use Rattle.packet.specs.Layout.{largest_part}
use Rattle.packet.specs.Entries.{room}
use Rattle.packet.specs.Entries.{is_null, is_too_large, taken, offset_at, size_at, null_at, outside_at, too_large_at}
use Rattle.packet.specs.Wire.{content, contents, packet_size, part_at, parts_from, parts_of}
use Rattle.packet_check.specs.Checks.{first_outside, first_too_large}
use Rattle.packet_check.specs.Stages.{Passes, size_by, taken_from}
use Rattle.packet.proofs.EntryLaws.{inside}

-- a part that is not too large takes no more than the largest
pub taken_most : (offset size : ℕ) → is_too_large offset size ≡ false → taken offset size ≤ largest_part
taken_most offset size small = go (is_null offset size) refl
  where
    go : (b : Bool) → is_null offset size ≡ b → taken offset size ≤ largest_part
    go true e = rw e (omega arith)
    go false e = rw e (ltb-false largest_part size (rw e at small))

-- what the parts from i on take
module _ (table : List ℕ) where
  pub taken_next : (i n : ℕ) → i < n → taken_from table i (n - i) ≡ taken (offset_at table i) (size_at table i) + taken_from table (i + 1) (n - (i + 1))
  unfolding taken_from
  taken_next i n h = let one_more : n - i ≡ suc (n - (i + 1)) = omega arith in rw one_more

  pub taken_end : (i n : ℕ) → n ≤ i → taken_from table i (n - i) ≡ 0
  unfolding taken_from
  taken_end i n h = let none : n - i ≡ 0 = omega arith in rw none

  pub small_at : (i : ℕ) → i < room table → room table ≤ first_too_large table → too_large_at table i ≡ false
  small_at i h small = first_none (too_large_at table) 0 (room table) i (omega arith) (omega arith)

  module _ (area : List ℕ) where
    pub inside_at : (i : ℕ) → i < room table → room table ≤ first_outside area table → outside_at area table i ≡ false
    inside_at i h within = first_none (outside_at area table) 0 (room table) i (omega arith) (omega arith)

    -- a part inside the area has as many bytes as its entry says
    pub length_content : (i : ℕ) → outside_at area table i ≡ false → length (content (part_at area table i)) ≡ taken (offset_at table i) (size_at table i)
    length_content i out = go (null_at table i) refl
      where
        go : (b : Bool) → null_at table i ≡ b → length (content (part_at area table i)) ≡ taken (offset_at table i) (size_at table i)
        go true e = rw e
        go false e =
            let within : offset_at table i + size_at table i ≤ length area = inside (length area) (offset_at table i) (size_at table i) e out in
            rw e (length-take-le (size_at table i) (drop (offset_at table i) area) (rw length-drop (omega arith)))

    pub length_parts : (i k : ℕ) → length (parts_from area table i k) ≡ k
    unfolding parts_from
    length_parts i zero = refl
    length_parts i (suc k) = ap suc (length_parts (i + 1) k)

    pub length_contents : (i k : ℕ) → i + k ≤ room table → room table ≤ first_outside area table → length (contents (parts_from area table i k)) ≡ taken_from table i k
    unfolding contents parts_from taken_from
    length_contents i zero h within = refl
    length_contents i (suc k) h within =
        length-append (content (part_at area table i)) (contents (parts_from area table (i + 1) k))
        ∙ rw (length_content i (inside_at i (omega arith) within), length_contents (i + 1) k (omega arith) within)

    pub size_taken : (type : ℕ) → Passes area table → size_by type table ≡ packet_size type (parts_of area table)
    unfolding packet_size
    size_taken type good = rw (length_parts 0 (room table), length_contents 0 (room table) (omega arith) good.inside)
