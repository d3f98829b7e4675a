-- `text::put_refused` meets its contract. Assumes nothing.
use Rattle.finding.specs.Meaning.{name_of, wanted_of}
use native.Mathlib.Omega.{arith}
use Rattle.listing.proofs.TextLaws.{wrote_then, wrote_as}
use Rattle.why_text.proofs.LineLaws.{refused_text}
use Rattle.why_text.proofs.text.put_refused.Goals as goal

pub returns : goal.returns
returns c =
    let start = c in
    let word = c.put_bytes-number_at.ensures in
    let code = c.put_field-place_at.ensures in
    wrote_as (refused_text start.args.number (name_of start.args.field) start.args.offset start.args.found (wanted_of start.args.wanted))
    (wrote_then (omega (arith, word.ends, code.1)) (wrote_then (omega (arith, word.ends)) word code.0) c.put_place.ensures)
