-- `write_fields` meets its contract, field by field. Assumes nothing.
use mathlib.Core.Path.{refl}
use mathlib.Core.List.{List, ◌++◌}
use Prim.Native.Nat.{ℕ}
use Rattle.words.specs.Word.{bytes_of}
use Rattle.guid.specs.Guid.{wire_bytes}
use Rattle.guid.proofs.WireLaws.{length_wire}
use Rattle.packet.specs.Layout.{packet_signature, flags_at, id_at, count_at}
use Rattle.packet.specs.Paper.{type_number}
use Rattle.packet.specs.Wire.{fixed_fields}
use Rattle.packet_write.proofs.FillingLaws.{word_opens, word_step, leaves, step, word_closes}
use Rattle.packet_write.proofs.PieceLaws.{length_fixed}
use Rattle.packet_write.proofs.write_fields.Goals as goal

pub returns : goal.returns
unfolding fixed_fields
returns c =
    let type : ℕ = type_number c.args.header.packet_type in
    let flags : ℕ = c.args.header.flags.0 in
    let id = c.args.header.id in
    let count : ℕ = c.args.header.parts in
    let behind-3 : List ℕ = bytes_of 4 count in
    let behind-2 : List ℕ = wire_bytes id ++ behind-3 in
    let behind-1 : List ℕ = bytes_of 2 flags ++ behind-2 in
    let one = word_opens 4 packet_signature (bytes_of 2 type ++ behind-1) (rw (length_fixed type flags id count) c.requires) c.write_u32.ensures in
    let two = word_step 2 type behind-1 flags_at one refl (rw c.from.ensures at c.write_u16.ensures) in
    let three = word_step 2 flags behind-2 id_at two refl c.write_u16-2.ensures in
    let written = leaves (wire_bytes id) behind-3 three c.write.ensures in
    let four = step (wire_bytes id) behind-3 count_at three (rw (length_wire id)) written in
    word_closes 4 count four c.write_u32-2.ensures
