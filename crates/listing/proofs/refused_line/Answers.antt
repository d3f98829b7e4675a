-- `refused_line` meets its contract. Assumes nothing.
use native.Mathlib.Omega.{arith}
use Rattle.listing.proofs.TextLaws.{wrote_then, wrote_as, refused_text}
use Rattle.listing.proofs.refused_line.Goals as goal

pub returns : goal.returns
returns c =
    let start = c in
    let word = c.put_bytes-offset_at.ensures in
    let offset = c.put_field-number_at.ensures in
    wrote_as (refused_text start.args.offset start.args.number)
    (wrote_then (omega (arith, word.ends, offset.1)) (wrote_then (omega (arith, word.ends)) word offset.0) c.put_field.ensures.0)
