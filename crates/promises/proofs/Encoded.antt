-- What `encode` says it wrote is a valid packet, and is read back. Assumes nothing.
use Rattle.std.specs.declared.result.Result.TheVariants.{Ok}
use mathlib.Core.Path.{◌≡◌, refl, sym, ◌∙◌, ap}
use mathlib.Core.Bool.{Bool, true, false}
use mathlib.Core.List.{List, [], ◌∷◌, ◌++◌}
use Prim.Native.Nat.{ℕ, zero, suc, ◌+◌, ◌^◌, ◌<◌, ◌≤◌}
use native.Mathlib.Nat.{add-zero, zero-add}
use native.Mathlib.Omega.{arith}
use lib.ListN.{length, get_or, take}
use lib.Seq.{take_at}
use Rattle.words.specs.Answer.{Answer, accepted, refused, afterwards}
use Rattle.words.specs.Decide.{pick, ◌<?◌, decide}
use Rattle.words.proofs.DecideLaws.{decide_append}
use Rattle.packet.specs.declared.Mode.{Mode}
use Rattle.packet.specs.Mode.{is_retired}
use Rattle.packet.specs.declared.PacketType.{PacketType}
use Rattle.packet.proofs.Back.{type_known}
use Rattle.packet.specs.declared.PacketFlags.{PacketFlags}
use Rattle.guid.specs.declared.Guid.{Guid}
use Rattle.guid.specs.Guid.{Fitting}
use Rattle.packet_write.specs.Statement.{Encodes}
use Rattle.packet.specs.Layout.{largest_part}
use Rattle.packet.specs.Entries.{room}
use Rattle.packet_read.specs.Reading.{Limits, reading}
use Rattle.packet.specs.Paper.{type_number}
use Rattle.packet.specs.Wire.{null, content, packet_size, part_at, parts_from, parts_of}
use Rattle.packet.specs.Entries.{offset_at, size_at}
use Rattle.packet_check.specs.Stages.{Passes}
use Rattle.packet_check.specs.Checks.{checks}
use Rattle.packet_check.proofs.CheckLaws.{passes}
use Rattle.packet_check.proofs.WireLaws.{taken_most, small_at, inside_at, length_content, length_parts}
use Rattle.packet_write.specs.Writing.{writing, room_lines}
use Rattle.packet_write.proofs.PieceLaws.{length_packet}
use Rattle.promises.specs.RoundTrip.{wire, wire_size, fields_for, Valid, Held, ReadsPart, given}
use Rattle.promises.proofs.RoundTrip.{round_trip}

module _ (area table : List ℕ) where
  part_given : (k i j : ℕ) → j < k → get_or (parts_from area table i k) j null ≡ part_at area table (i + j)
  unfolding parts_from
  part_given zero i j h = absurd (omega arith)
  part_given (suc k) i zero h = rw (add-zero i)
  part_given (suc k) i (suc j) h =
      let place : i + suc j ≡ i + 1 + j = omega arith in
      rw place (part_given k (i + 1) j (omega arith))

  small_part : Passes area table → (i : ℕ) → i < room table → length (content (part_at area table i)) ≤ largest_part
  small_part good i h =
      rw (length_content table area i (inside_at table area i h good.inside)) (taken_most (offset_at table i) (size_at table i) (small_at table i h good.small))

  -- what an acceptance says of the table, and how many bytes it counts
  module _ (mode : Mode) (type given-room n : ℕ) (e : accepted n [] ≡ writing mode type area table given-room) where
    checked : Passes area table × (is_retired mode type ≡ false) × (decide (room_lines (packet_size type (parts_of area table)) given-room) (accepted (packet_size type (parts_of area table)) []) ≡ accepted n [])
    unfolding writing
    checked =
        let needed = packet_size type (parts_of area table) in
        passes mode type area table (sym (decide_append (checks mode type area table) (room_lines needed given-room) (accepted needed [])) ∙ sym e) refl

    size_is : packet_size type (parts_of area table) ≡ n
    unfolding room_lines
    size_is = by_room (given-room <? packet_size type (parts_of area table)) checked.2
      where
        by_room : (b : Bool) → pick b (refused 17 (4 ∷ packet_size type (parts_of area table) ∷ given-room ∷ []) 0) (accepted (packet_size type (parts_of area table)) []) ≡ accepted n []
            → packet_size type (parts_of area table) ≡ n
        by_room true e = absurd (let z : ◌≡◌ {A = ℕ} 0 1 = cc in omega arith)
        by_room false e = cc

-- what `encode` wrote is a valid packet
pub given_valid : (mode : Mode) (type : PacketType) (flags : PacketFlags) (id : Guid) (area table out : List ℕ) (n : ℕ) (after : List ℕ)
    → flags.0 < 2 ^ 16 → Fitting id → Encodes mode type flags id area table out (Ok n) after → Valid (given type flags id area table)
given_valid mode type flags id area table out n after flags_fit id_fits told =
    let good : Passes area table = (checked area table mode (type_number type) (length out) n told.answer).0 in
    let counted : length (parts_of area table) ≡ room table = length_parts table area 0 (room table) in
    record {
      known = type_known type;
      flags_fit = flags_fit;
      id_fits = id_fits;
      few = rw counted good.few;
      small = λ i h. let below : i < room table = rw counted at h in rw (part_given area table (room table) 0 i below, zero-add i) (small_part area table good i below);
    }

module _ (mode : Mode) (type : PacketType) (flags : PacketFlags) (id : Guid) (area table out : List ℕ) (n : ℕ) (after : List ℕ)
    (told : Encodes mode type flags id area table out (Ok n) after) where
  pub written_size : wire_size (given type flags id area table) ≡ n
  written_size = size_is area table mode (type_number type) (length out) n told.answer

  pub written_current : is_retired mode (type_number type) ≡ false
  written_current = (checked area table mode (type_number type) (length out) n told.answer).1

  pub written_bytes : take n after ≡ wire (given type flags id area table)
  written_bytes =
      let m = given type flags id area table in
      ap (take n) (told.output ∙ ap (λ (a : Answer). afterwards a (wire m) out) (sym told.answer))
      ∙ take_at (wire m) _ n (length_packet (type_number type) flags.0 id (parts_of area table) ∙ written_size)

  -- where `encode` has answered that it wrote so many bytes, those are read back, with any tail, as the packet that was
  -- given
  pub written_reads : (tail : List ℕ) (limits : Limits) → flags.0 < 2 ^ 16 → Fitting id → Held (given type flags id area table) limits
      → (reading (take n after ++ tail) limits ≡ accepted n (fields_for (given type flags id area table)))
      × ((i : ℕ) → i < length (parts_of area table) → ReadsPart (take n after ++ tail) (length (parts_of area table)) i (get_or (parts_of area table) i null))
  written_reads tail limits flags_fit id_fits held =
      let m = given type flags id area table in
      let back = round_trip m limits tail (given_valid mode type flags id area table out n after flags_fit id_fits told) held in
      rw (written_bytes, ← written_size) back
