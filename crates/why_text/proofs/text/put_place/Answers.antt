-- `text::put_place` meets its contract. Assumes nothing.
use Rattle.words.specs.Text.{text}
use Rattle.finding.specs.Meaning.{name_of, wanted_of}
use native.Mathlib.Omega.{arith}
use Rattle.listing.proofs.TextLaws.{wrote_then, wrote_as}
use Rattle.why_text.proofs.LineLaws.{place_text_lem}
use Rattle.why_text.proofs.text.put_place.Goals as goal

pub returns : goal.returns
returns c =
    let start = c in
    let name = c.put_name-offset_at.ensures in
    let offset = c.put_field-found_at.ensures in
    let value = c.put_field-wanted_at.ensures in
    wrote_as (place_text_lem (text (name_of start.args.field)) start.args.offset start.args.found (wanted_of start.args.wanted))
    (wrote_then (omega (arith, name.1, offset.1, value.1)) (wrote_then (omega (arith, name.1, offset.1)) (wrote_then (omega (arith, name.1)) name.0 offset.0) value.0) c.put_wanted.ensures)
