-- The walk that copies the bytes of each first use. Assumes nothing.
use mathlib.Core.Path.{◌≡◌, refl, sym, ◌∙◌, ap}
use mathlib.Core.List.{List}
use Prim.Native.Nat.{ℕ, ◌+◌, ◌*◌, ◌-◌, ◌^◌, ◌<◌, ◌≤◌}
use native.Mathlib.Numerals.{add-one}
use native.Mathlib.Omega.{arith}
use lib.ListN.{length}
use borrow.Rule.Slice.PartMut.{mid_of, put_mid}
use Rattle.words.specs.Buffer.{stretch, over, fitted}
use Rattle.words.proofs.BufferLaws.{length_over}
use Rattle.words.proofs.LentLaws.{lent_fitted}
use Rattle.pack_pairs.specs.Pairs.{offset_at}
use Rattle.pack_pairs.specs.Stages.{room_of, room, packed_bytes, needed, Inside}
use Rattle.wire_check.specs.Writing.{entries_in}
use Rattle.pack_links.specs.Stages.{room_for, Movable}
use Rattle.pack_links.proofs.MoveLaws.{offset_is, room_for_is, room_next}
use Rattle.pack_pairs.proofs.RoomLaws.{room_grows, length_stretch, room_inside, length_bytes}
use Rattle.wire.specs.Layout.{entry_words}

-- the first i entries' bytes are copied, and the next ones go to `at`
abbrev pub Copying : List ℕ → List ℕ → List ℕ → List ℕ → ℕ → ℕ → Type 0
Copying area values out₀ out at i = (i ≤ entries_in values) × (at ≡ room values i) × (out ≡ over (packed_bytes area values i) out₀)

pub copy_begin : (area values out : List ℕ) → Copying area values out out 0 0
unfolding room packed_bytes
copy_begin area values out = (omega arith, refl, refl)

module _ (area values : List ℕ) (inside : Inside area values) where
  module _ (t : List ℕ) (movable : Movable values t) (out₀ : List ℕ) (fits : needed values ≤ length out₀) (out : List ℕ) (at i : ℕ) (so_far : Copying area values out₀ out at i) where
    pub copy_end : entries_in values ≤ i → out ≡ over (packed_bytes area values (entries_in values)) out₀
    copy_end h = let all : i ≡ entries_in values = omega arith in rw all at so_far.2

    pub copy_long : length out ≡ length out₀
    copy_long =
        ap length so_far.2
        ∙ length_over (packed_bytes area values i) out₀ (omega (arith, length_bytes area values inside i so_far.0, room_grows values i (entries_in values) so_far.0))

    pub copy_place : at ≤ length out
    copy_place = omega (arith, copy_long, room_grows values i (entries_in values) so_far.0)

    module _ (h : i < entries_in values) where
      pub copy_inside : entry_words * i + entry_words ≤ length t
      copy_inside = omega (arith, movable.links.over.as_long)

      takes : room_for t i ≡ room_of values i
      takes = room_for_is values t movable t i (λ k low. refl) h

      pub copy_asks : (entry_words * i + entry_words ≤ length t) × (at + room_for t i < 2 ^ 64)
      copy_asks = (copy_inside, omega (arith, takes, room_next values t movable i, room_grows values (i + 1) (entries_in values) (omega arith), movable.fits))

      module _ (next : ℕ) (goes : next ≡ at + room_for t i) where
        pub next_above : at ≤ next
        next_above = omega arith

        more_is : next - at ≡ room_of values i
        more_is = omega (arith, takes)

        pub copy_go : (bytes last : List ℕ) → bytes ≡ stretch area (offset_at t i) (next - at) → last ≡ fitted bytes (mid_of at (length out - at) out)
            → Copying area values out₀ (put_mid at (length out - at) out last) next (i + 1)
        unfolding packed_bytes
        copy_go bytes last is wrote =
            let piece : bytes ≡ stretch area (offset_at values i) (room_of values i) = is ∙ rw (more_is, offset_is values t movable t i (λ k low. refl) h) in
            let size : length bytes ≡ room_of values i = ap length piece ∙ length_stretch area (offset_at values i) (room_of values i) (room_inside area values inside i h) in
            let reach : length (packed_bytes area values i) ≡ at = length_bytes area values inside i so_far.0 ∙ sym so_far.1 in
            let grows : at + room_of values i ≡ room values (i + 1) = rw so_far.1 (sym (room_next values t movable i)) in (
              omega arith,
              omega (arith, takes, grows),
              rw (add-one i, ← piece) (lent_fitted (packed_bytes area values i) bytes out₀ out last at so_far.2 reach (omega (arith, size, grows, room_grows values (i + 1) (entries_in values) (omega arith))) wrote),
            )
