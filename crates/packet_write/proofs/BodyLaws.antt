-- What follows the fixed header, piece by piece: the sizes; the part checksums and the parts; the checksum of sizes and checksums,
-- last. Assumes nothing.
use mathlib.Core.Path.{◌≡◌, sym, ◌∙◌, ap, ap₂}
use mathlib.Core.List.{List, [], ◌++◌, append_assoc, append-nil}
use Prim.Native.Nat.{ℕ, ◌+◌, ◌*◌, ◌-◌, ◌≤◌}
use native.Mathlib.Omega.{arith}
use lib.ListN.{length, take, drop, length-append, length-drop, drop_of_length-le}
use lib.Seq.{length-take-le, take_at, drop_at, drop-drop}
use borrow.Rule.Slice.PartMut.{mid_of, put_mid}
use Rattle.words.specs.Buffer.{over}
use Rattle.words.proofs.BufferLaws.{length_over}
use Rattle.words.proofs.LentLaws.{tail_is_drop}
use Rattle.packet.specs.Entries.{room}
use Rattle.packet.specs.Wire.{sizes, sums, contents, sealed, body, parts_of}
use Rattle.packet_check.specs.Stages.{Passes}
use Rattle.packet_check.proofs.WireLaws.{length_parts}
use Rattle.packet_write.specs.Stages.{entry_sizes, parts_at, parted}
use Rattle.packet_write.proofs.FillingLaws.{sealed_front}
use Rattle.packet_write.proofs.PieceLaws.{length_sealed, length_sizes, length_sums, length_body, sizes_entries}

-- what is checked by the checksum of the variable header
abbrev guarded : List ℕ → List ℕ → List ℕ
guarded area table = sizes (parts_of area table) ++ sums (parts_of area table)

-- an output that held `before` holds a body but for that checksum: eight bytes are as they were
pub record Unsealed (area table before now : List ℕ) : Type 0 where
  pub gap : List ℕ
  pub eight : length gap ≡ 8
  pub holds : now ≡ guarded area table ++ (gap ++ over (contents (parts_of area table)) (drop (12 * room table + 8) before))

module _ (area table : List ℕ) where
  sums_length : length (sums (parts_of area table)) ≡ 8 * room table
  sums_length = length_sums (parts_of area table) ∙ ap (λ (n : ℕ). 8 * n) (length_parts table area 0 (room table))

  sizes_length : length (sizes (parts_of area table)) ≡ 4 * room table
  sizes_length = length_sizes (parts_of area table) ∙ ap (λ (n : ℕ). 4 * n) (length_parts table area 0 (room table))

  guarded_length : length (guarded area table) ≡ 12 * room table
  guarded_length = length-append (sizes (parts_of area table)) (sums (parts_of area table)) ∙ omega (arith, sizes_length, sums_length)

  module _ (before : List ℕ) (fits : length (body (parts_of area table)) ≤ length before) where
    -- the room that a body asks for
    pub body_room : 12 * room table + 8 + length (contents (parts_of area table)) ≤ length before
    body_room =
        let whole : length (body (parts_of area table)) ≡ 8 + 12 * length (parts_of area table) + length (contents (parts_of area table)) = length_body (parts_of area table) in
        let count : length (parts_of area table) ≡ room table = length_parts table area 0 (room table) in
        omega arith

    module _ {now : List ℕ} (good : Passes area table) (e : now ≡ over (entry_sizes table 0 (room table)) before) where
      sized : now ≡ over (sizes (parts_of area table)) before
      sized = e ∙ ap (λ (ws : List ℕ). over ws before) (sym (sizes_entries area table good.inside 0 (room table) (omega arith)))

      sized_length : length now ≡ length before
      sized_length = ap length sized ∙ length_over (sizes (parts_of area table)) before (omega (arith, sizes_length, body_room))

      pub sums_place : 4 * room table ≤ length now
      sums_place = omega (arith, sized_length, body_room)

      -- what is behind the sizes is as it was
      lent : mid_of (4 * room table) (length now - 4 * room table) now ≡ drop (4 * room table) before
      lent =
          tail_is_drop now (4 * room table)
          ∙ ap (drop (4 * room table)) sized
          ∙ drop_at (sizes (parts_of area table)) (drop (length (sizes (parts_of area table))) before) (4 * room table) sizes_length
          ∙ ap (λ (n : ℕ). drop n before) sizes_length

      pub parts_room : parts_at table + length (contents (parts_of area table)) ≤ length (mid_of (4 * room table) (length now - 4 * room table) now)
      parts_room = omega (arith, body_room, ap length lent, length-drop (4 * room table) before)

      pub parts_written : {after : List ℕ} → after ≡ parted area table (mid_of (4 * room table) (length now - 4 * room table) now)
          → Unsealed area table before (put_mid (4 * room table) (length now - 4 * room table) now after)
      parts_written {after} wrote =
          let size : List ℕ = sizes (parts_of area table) in
          let sum : List ℕ = sums (parts_of area table) in
          let rest : List ℕ = drop (4 * room table) before in
          let m : ℕ = parts_at table in
          let left : List ℕ = drop (length sum) (take m rest) in
          let held : length (take m rest) ≡ m = length-take-le m rest (omega (arith, body_room, length-drop (4 * room table) before)) in
          let all : 4 * room table + m ≡ 12 * room table + 8 = omega arith in
          let nothing : drop (length now - 4 * room table) (drop (4 * room table) now) ≡ [] =
          drop_of_length-le (drop (4 * room table) now) {i = length now - 4 * room table} (simp length-drop (omega arith)) in
          let head : take (4 * room table) now ≡ size = ap (take (4 * room table)) sized ∙ take_at size (drop (length size) before) (4 * room table) sizes_length in
          let tail : after ≡ sum ++ left ++ over (contents (parts_of area table)) (drop (12 * room table + 8) before) =
          wrote ∙ ap (parted area table) lent
          ∙ ap (λ (z : List ℕ). sum ++ left ++ over (contents (parts_of area table)) z) (drop-drop m (4 * room table) before ∙ ap (λ (n : ℕ). drop n before) all) in
          record {
            gap = left;
            eight = length-drop (length sum) (take m rest) ∙ omega (arith, held, sums_length);
            holds =
                ap₂ (λ (a z : List ℕ). a ++ (after ++ z)) head nothing
                ∙ ap (λ (z : List ℕ). size ++ z) (append-nil after ∙ tail ∙ append_assoc sum left (over (contents (parts_of area table)) (drop (12 * room table + 8) before)))
                ∙ sym (append_assoc size sum (left ++ over (contents (parts_of area table)) (drop (12 * room table + 8) before)));
          }

    module _ {now : List ℕ} (u : Unsealed area table before now) where
      abbrev rest : List ℕ
      rest = over (contents (parts_of area table)) (drop (12 * room table + 8) before)

      pub seal_room : 12 * room table + 8 ≤ length now
      seal_room =
          omega (arith, guarded_length, u.eight, ap length u.holds, length-append (guarded area table) (u.gap ++ rest), length-append u.gap rest)

      -- the checksum is put into its place, and the parts stay
      pub body_written : {after : List ℕ} → after ≡ over (sealed (take (12 * room table) now)) now → after ≡ over (body (parts_of area table)) before
      unfolding body
      body_written {after} e =
          let part : List ℕ = contents (parts_of area table) in
          let whole : List ℕ = sealed (guarded area table) in
          let at : ℕ = 12 * room table + 8 in
          let long : length whole ≡ at = length_sealed (guarded area table) ∙ ap (λ (n : ℕ). n + 8) guarded_length in
          let end : length (whole ++ part) ≡ at + length part = length-append whole part ∙ ap (λ (n : ℕ). n + length part) long in
          sealed_front (guarded area table) (u.gap ++ rest) guarded_length u.holds e
          ∙ ap (λ (z : List ℕ). whole ++ z) (drop_at u.gap rest 8 u.eight ∙ ap (λ (z : List ℕ). part ++ z) (drop-drop (length part) at before))
          ∙ sym (append_assoc whole part (drop (at + length part) before))
          ∙ ap (λ (n : ℕ). whole ++ part ++ drop n before) (sym end)
