-- A stored value names the same bytes after packing as before. Assumes nothing.
use mathlib.Core.Path.{◌≡◌, sym, ◌∙◌, ap}
use mathlib.Core.Bool.{true}
use mathlib.Core.Logic.{⊎_elim}
use mathlib.Core.List.{List, ◌++◌}
use Prim.Native.Nat.{ℕ, zero, suc, ◌+◌, ◌<◌, ◌≤◌}
use native.Mathlib.Nat.{eq-or-lt_of_le}
use native.Mathlib.Omega.{arith}
use lib.ListN.{length, take, drop, length-drop}
use lib.Seq.{take-append-le, drop-append-le, drop_at, take_all}
use borrow.Author.Tests.{eq-eqb}
use Rattle.words.specs.Buffer.{stretch}
use Rattle.wire_check.specs.Writing.{entries_in}
use Rattle.pack_pairs.specs.Pairs.{offset_at, length_at, stored}
use Rattle.pack_pairs.specs.Stages.{New, first_use, room_of, room, new_offset, packed_bytes, needed, Inside}
use Rattle.pack_pairs.proofs.UseLaws.{use_alike, use_new, use_most, new_use}
use Rattle.pack_pairs.proofs.RoomLaws.{room_grows, length_bytes, length_stretch, room_inside}

-- a stretch of what stands in front
stretch_front : (xs ys : List ℕ) (at n : ℕ) → at + n ≤ length xs → stretch (xs ++ ys) at n ≡ stretch xs at n
stretch_front xs ys at n h =
    ap (take n) (drop-append-le at xs ys (omega arith)) ∙ take-append-le n (drop at xs) ys (simp length-drop (omega arith))

module _ (values : List ℕ) (i : ℕ) (is : stored values i ≡ true) where
  pub takes : room_of values (first_use values i) ≡ length_at values i
  takes =
      let new : New values (first_use values i) = use_new values i is in
      rw (new.stores, eq-eqb (first_use values (first_use values i)) (first_use values i) (new_use values (first_use values i) new)) (use_alike values i is).1.1

  -- the pair of the entry i lies in what the first n entries store
  within : (n : ℕ) → first_use values i < n → new_offset values i + length_at values i ≤ room values n
  unfolding room
  within n h = omega (arith, takes, room_grows values (suc (first_use values i)) n (omega arith))

  pub lies : i < entries_in values → new_offset values i + length_at values i ≤ needed values
  lies h = within (entries_in values) (omega (arith, use_most values i))

  module _ (area : List ℕ) (inside : Inside area values) where
    content_kept : (n : ℕ) → first_use values i < n → n ≤ entries_in values
        → stretch (packed_bytes area values n) (new_offset values i) (length_at values i) ≡ stretch area (offset_at values i) (length_at values i)
    unfolding packed_bytes
    content_kept zero h all = absurd (omega arith)
    content_kept (suc n) h all =
        ⊎_elim
        (λ (e : first_use values i ≡ n).
        let long : length (packed_bytes area values n) ≡ room values (first_use values i) = length_bytes area values inside n (omega arith) ∙ ap (room values) (sym e) in
        let size : room_of values n ≡ length_at values i = ap (room_of values) (sym e) ∙ takes in
        let at : offset_at values n ≡ offset_at values i = ap (offset_at values) (sym e) ∙ (use_alike values i is).1.0 in
        ap (take (length_at values i)) (drop_at (packed_bytes area values n) (stretch area (offset_at values n) (room_of values n)) (new_offset values i) long)
        ∙ take_all (length_at values i) (stretch area (offset_at values n) (room_of values n)) (omega (arith, size, length_stretch area (offset_at values n) (room_of values n) (room_inside area values inside n (omega arith))))
        ∙ rw (size, at))
        (λ (less : first_use values i < n).
        stretch_front (packed_bytes area values n) _ (new_offset values i) (length_at values i) (omega (arith, within n less, length_bytes area values inside n (omega arith)))
        ∙ content_kept n less (omega arith))
        (eq-or-lt_of_le (at_most h))
      where
        at_most : first_use values i < suc n → first_use values i ≤ n
        at_most h = omega arith

    -- in an area that begins with the packed bytes
    pub content_stands : i < entries_in values → (tail : List ℕ)
        → stretch (packed_bytes area values (entries_in values) ++ tail) (new_offset values i) (length_at values i) ≡ stretch area (offset_at values i) (length_at values i)
    content_stands h tail =
        let first_below : first_use values i < entries_in values = omega (arith, use_most values i) in
        stretch_front (packed_bytes area values (entries_in values)) tail (new_offset values i) (length_at values i) (omega (arith, within (entries_in values) first_below, length_bytes area values inside (entries_in values) (omega arith)))
        ∙ content_kept (entries_in values) first_below (omega arith)
