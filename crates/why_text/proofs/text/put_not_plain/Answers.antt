-- `text::put_not_plain` meets its contract. Assumes nothing.
use Rattle.finding.specs.Meaning.{name_of, wanted_of}
use native.Mathlib.Omega.{arith}
use Rattle.listing.proofs.TextLaws.{wrote_then, wrote_as}
use Rattle.why_text.proofs.LineLaws.{not_plain_text}
use Rattle.why_text.proofs.text.put_not_plain.Goals as goal

pub returns : goal.returns
returns c =
    let start = c in
    let word = c.put_bytes-place_at.ensures in
    wrote_as (not_plain_text (name_of start.args.field) start.args.offset start.args.found (wanted_of start.args.wanted))
    (wrote_then (omega (arith, word.ends)) word c.put_place.ensures)
