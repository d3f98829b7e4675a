-- `more_line` meets its contract. Assumes nothing.
use native.Mathlib.Omega.{arith}
use Rattle.listing.proofs.TextLaws.{wrote_then, wrote_as, more_text}
use Rattle.listing.proofs.more_line.Goals as goal

pub returns : goal.returns
returns c =
    let start = c in
    let word = c.put_bytes-offset_at.ensures in
    wrote_as (more_text start.args.offset) (wrote_then (omega (arith, word.ends)) word c.put_field.ensures.0)
