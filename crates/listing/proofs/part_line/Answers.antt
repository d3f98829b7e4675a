-- `part_line` meets its contract. Assumes nothing.
use native.Mathlib.Omega.{arith}
use Rattle.listing.proofs.TextLaws.{wrote_then, wrote_as, part_text}
use Rattle.listing.proofs.part_line.Goals as goal

pub returns : goal.returns
returns c =
    let start = c in
    let word = c.put_bytes-index_at.ensures in
    let index = c.put_field-length_at.ensures in
    let entry = c.put_entry.ensures in
    (wrote_as (part_text start.args.index start.args.size start.args.sum) (wrote_then (omega (arith, word.ends, index.1)) (wrote_then (omega (arith, word.ends)) word index.0) entry.0), omega (arith, word.ends, index.1, entry.1))
