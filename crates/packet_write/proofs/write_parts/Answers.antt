-- `write_parts` meets its contract. The invariant: the words and the bytes of the parts from `index` on are still to be written.
-- Assumes nothing.
use mathlib.Core.Path.{◌≡◌, sym, ◌∙◌, ap}
use mathlib.Core.List.{List, ◌++◌}
use Prim.Native.Nat.{ℕ, ◌+◌, ◌*◌, ◌<◌, ◌≤◌, ◌-◌}
use native.Mathlib.Nat.{sub-zero}
use native.Mathlib.Omega.{arith}
use borrow.Rule.Slice.PartMut.{put_mid, mid_of}
use lib.ListN.{length, length-append}
use Rattle.words.specs.Word.{bytes_of}
use Rattle.words.specs.Buffer.{fitted}
use Rattle.crc64.specs.Polynomial.{checksum}
use Rattle.checksum.proofs.Stretches.{swapped_back}
use Rattle.packet.specs.Entries.{room, lent_at}
use Rattle.packet.specs.Wire.{Part, sums, contents, content, sum_word, part_at, parts_from, parts_of}
use Rattle.packet_check.specs.Checks.{first_outside}
use Rattle.packet_check.proofs.WireLaws.{length_parts}
use Rattle.packet_write.specs.Stages.{parts_at}
use Rattle.packet_write.proofs.PartingLaws.{Parting, parting, parting_length, word_room, part_room, word_place, part_place, part_written, word_put, parting_ends}
use Rattle.packet_write.proofs.PieceLaws.{length_sums, parts_next, parts_end, lent_content, sum_content}
use Rattle.packet_write.proofs.write_parts.Goals as goal

-- one turn: the part of index i, and those after it, are still to be written
module _ (area table before : List ℕ) (inside : room table ≤ first_outside area table) (i : ℕ) (below : i < room table) where
  abbrev this : Part
  this = part_at area table i

  abbrev later : List Part
  later = parts_from area table (i + 1) (room table - (i + 1))

  module _ (bytes : List ℕ) (lent : bytes ≡ lent_at area table i) where
    is_part : bytes ≡ content this
    is_part = lent ∙ lent_content area table inside i below

    word_is : (folded : ℕ) → folded ≡ checksum bytes → folded ≡ sum_word this
    word_is folded is = is ∙ ap (λ (bs : List ℕ). checksum bs) is_part ∙ sym (sum_content this)

    module _ (now : List ℕ) (word_at from : ℕ)
        (left : Parting (sums (parts_of area table)) (contents (parts_of area table)) (sums (parts_from area table i (room table - i))) (contents (parts_from area table i (room table - i))) before now (parts_at table) word_at from) where
      still : Parting (sums (parts_of area table)) (contents (parts_of area table)) (bytes_of 8 (sum_word this) ++ sums later) (content this ++ contents later) before now (parts_at table) word_at from
      unfolding sums contents
      still = rw (parts_next area table i (room table) below) at left

      -- it has the room
      fits : from + length bytes ≤ length before
      fits = omega (arith, part_room still, parting_length still, length-append (content this) (contents later), ap length is_part)

      -- the part is copied, and its word is still to be put
      copied : (after : List ℕ) → after ≡ fitted bytes (mid_of from (length now - from) now)
          → Parting (sums (parts_of area table)) (contents (parts_of area table)) (bytes_of 8 (sum_word this) ++ sums later) (contents later) before
          (put_mid from (length now - from) now after) (parts_at table) word_at (from + length bytes)
      copied after told =
          part_written (content this) (contents later) (from + length bytes) still (ap (λ (bs : List ℕ). from + length bs) (sym is_part)) (rw is_part at told)

-- the words and their checksum have the room
head_room : (table out : List ℕ) (n : ℕ) → parts_at table + n ≤ length out → 8 * room table + 8 ≤ length out
head_room table out n h = omega arith

pub overflow_mul-part_at : goal.overflow_mul-part_at
overflow_mul-part_at c = omega (arith, head_room _ _ _ c.requires.1)

pub overflow_add-part_at : goal.overflow_add-part_at
overflow_add-part_at c = omega (arith, head_room _ _ _ c.requires.1)

pub loop-index-init : goal.loop-index-init
loop-index-init c =
    let area : List ℕ = c.args.area.now in
    let table : List ℕ = c.args.parts.now in
    let many : length (sums (parts_of area table)) ≡ 8 * room table = length_sums (parts_of area table) ∙ ap (λ (n : ℕ). 8 * n) (length_parts table area 0 (room table)) in
    rw (sub-zero (room table)) (parting (sums (parts_of area table)) (contents (parts_of area table)) c.args.out.now (parts_at table) (omega arith) c.requires.1)

pub slice_bounds-copied-count : goal.slice_bounds-copied-count
slice_bounds-copied-count c = part_place c.loop-index.invariant

pub slice_bounds-copied-start : goal.slice_bounds-copied-start
slice_bounds-copied-start c = part_place c.loop-index.invariant

pub overflow_add-part_at-in-loop-index : goal.overflow_add-part_at-in-loop-index
overflow_add-part_at-in-loop-index c =
    omega (arith, fits c.args.area.now c.args.parts.now c.args.out.now c.requires.0 c.loop-index.index c.loop-index-test.true c.part-bytes.result.now c.part-bytes.ensures.bytes c.loop-index.out c.loop-index.sum_at c.loop-index.part_at c.loop-index.invariant)

pub slice_bounds-write_u64-count : goal.slice_bounds-write_u64-count
slice_bounds-write_u64-count c =
    word_place (copied c.args.area.now c.args.parts.now c.args.out.now c.requires.0 c.loop-index.index c.loop-index-test.true c.part-bytes.result.now c.part-bytes.ensures.bytes c.loop-index.out c.loop-index.sum_at c.loop-index.part_at c.loop-index.invariant _ c.copied-register.ensures.copied)

pub slice_bounds-write_u64-start : goal.slice_bounds-write_u64-start
slice_bounds-write_u64-start c =
    word_place (copied c.args.area.now c.args.parts.now c.args.out.now c.requires.0 c.loop-index.index c.loop-index-test.true c.part-bytes.result.now c.part-bytes.ensures.bytes c.loop-index.out c.loop-index.sum_at c.loop-index.part_at c.loop-index.invariant _ c.copied-register.ensures.copied)

pub overflow_add-sum_at : goal.overflow_add-sum_at
overflow_add-sum_at c =
    let put = word_room (copied c.args.area.now c.args.parts.now c.args.out.now c.requires.0 c.loop-index.index c.loop-index-test.true c.part-bytes.result.now c.part-bytes.ensures.bytes c.loop-index.out c.loop-index.sum_at c.loop-index.part_at c.loop-index.invariant _ c.copied-register.ensures.copied) in
    omega (arith, put, c.requires.1)

pub loop-index-preserved : goal.loop-index-preserved
loop-index-preserved c =
    let area : List ℕ = c.args.area.now in
    let table : List ℕ = c.args.parts.now in
    let i : ℕ = c.loop-index.index in
    let bytes : List ℕ = c.part-bytes.result.now in
    let sum = word_is area table c.args.out.now c.requires.0 i c.loop-index-test.true bytes c.part-bytes.ensures.bytes _ (swapped_back bytes c.copied-register.ensures.folded c.swap_bytes.ensures) in
    word_put (sum_word (part_at area table i)) (sums (parts_from area table (i + 1) (room table - (i + 1))))
    (copied area table c.args.out.now c.requires.0 i c.loop-index-test.true bytes c.part-bytes.ensures.bytes c.loop-index.out c.loop-index.sum_at c.loop-index.part_at c.loop-index.invariant _ c.copied-register.ensures.copied)
    (rw sum at c.write_u64.ensures)

pub shape_of-out : goal.shape_of-out
shape_of-out c = parting_length c.loop-index.invariant

pub returns : goal.returns
unfolding sums contents
returns c =
    parting_ends (rw (parts_end c.args.area.now c.args.parts.now c.loop-index.index (room c.args.parts.now) (omega arith)) at c.loop-index.invariant)
