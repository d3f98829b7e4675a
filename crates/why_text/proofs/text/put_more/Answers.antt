-- `text::put_more` meets its contract. Assumes nothing.
use Rattle.finding.specs.Meaning.{name_of}
use native.Mathlib.Omega.{arith}
use Rattle.listing.proofs.TextLaws.{wrote_then, wrote_as}
use Rattle.why_text.proofs.LineLaws.{more_text}
use Rattle.why_text.proofs.text.put_more.Goals as goal

pub returns : goal.returns
returns c =
    let start = c in
    let word = c.put_bytes-name_at.ensures in
    let name = c.put_name-size_at.ensures in
    wrote_as (more_text (name_of start.args.field) start.args.size)
    (wrote_then (omega (arith, word.ends, name.1)) (wrote_then (omega (arith, word.ends)) word name.0) c.put_field.ensures.0)
