-- `packet_line` meets its contract. Assumes nothing.
use native.Mathlib.Omega.{arith}
use Rattle.listing.proofs.TextLaws.{wrote_then, wrote_as, packet_text}
use Rattle.listing.proofs.packet_line.Goals as goal

pub put_field-requires : goal.put_field-requires
put_field-requires c =
    let put-bytes = c.put_bytes-type_at in
    let put-field = c.put_field-flags_at in
    let put-field2 = c.put_field-id_at in
    let put-field3 = c.put_field-parts_at in
    let put_id = c.put_id-count_at in
    omega (arith, c.requires, put-bytes.ensures.ends, put-field.ensures.1, put-field2.ensures.1, put-field3.ensures.1, put_id.ensures.1, put-bytes.auto.out, put-field.auto.out, put-field2.auto.out, put-field3.auto.out, put_id.auto.out)

pub shape_of-out : goal.shape_of-out
shape_of-out c = omega (arith, c.put_bytes-type_at.auto.out, c.put_field-flags_at.auto.out, c.put_field-id_at.auto.out, c.put_field-parts_at.auto.out, c.put_id-count_at.auto.out, c.put_field.auto.out)

pub returns : goal.returns
returns c =
    let type-number = c.from in
    let start = c in
    let word = c.put_bytes-type_at.ensures in
    let offset = c.put_field-flags_at.ensures in
    let type = c.put_field-id_at.ensures in
    let flags = c.put_field-parts_at.ensures in
    let id = c.put_id-count_at.ensures in
    let parts = c.put_field.ensures in
    let room = start.requires in
    let w1 = wrote_then (omega (arith, word.ends)) word offset.0 in
    let w2 = wrote_then (omega (arith, word.ends, offset.1)) w1 type.0 in
    let w3 = wrote_then (omega (arith, word.ends, offset.1, type.1)) w2 flags.0 in
    let w4 = wrote_then (omega (arith, word.ends, offset.1, type.1, flags.1)) w3 id.0 in
    let w5 = wrote_then (omega (arith, word.ends, offset.1, type.1, flags.1, id.1)) w4 parts.0 in
    (wrote_as (packet_text start.args.offset type-number.result start.args.packet type-number.ensures) w5, omega (arith, word.ends, offset.1, type.1, flags.1, id.1, parts.1))
