-- `write` meets its contract: no room, or the line. Assumes nothing.
use Rattle.finding.specs.Meaning.{meaning}
use Rattle.listing.proofs.WalkLaws.{text_fits}
use Rattle.why_text.specs.Text.{line_of}
use Rattle.why_text.proofs.LineLaws.{no_room, has_room}
use Rattle.why_text.proofs.write.Goals as goal

pub returns-then-out-lt-LINE_ROOM : goal.returns-then-out-lt-LINE_ROOM
returns-then-out-lt-LINE_ROOM c = let a = c.args in record { writes_line = no_room (line_of (meaning a.finding)) a.out.now c.if-out-lt-LINE_ROOM.true; fits = tt }

pub returns : goal.returns
returns c =
    let a = c.args in
    let wrote = c.put_finding in
    record { writes_line = has_room (line_of (meaning a.finding)) a.out.now c.if-out-lt-LINE_ROOM.false wrote.ensures; fits = text_fits wrote.ensures wrote.auto.out }
