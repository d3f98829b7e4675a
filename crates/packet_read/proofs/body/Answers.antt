-- `body` meets its contract, one return a line: the laws put the stages' words together.
-- Assumes nothing.
use Rattle.packet_read.proofs.BodyLaws.{body_no_room, body_read}
use Rattle.packet_read.proofs.body.Goals as goal

pub returns-then-room-count : goal.returns-then-room-count
returns-then-room-count c =
    let sized = rw c.in-Some.is at c.in_ok-consumed.ensures in
    body_no_room _ _ _ _ _ sized c.in_ok-check_parts.ensures _ c.if-room-count.true c.from.ensures

pub returns : goal.returns
returns c =
    let sized = rw c.in-Some.is at c.in_ok-consumed.ensures in
    body_read _ _ _ _ _ sized c.in_ok-check_parts.ensures _ _ c.requires.0 c.requires.2 c.if-room-count.false c.fill.ensures
