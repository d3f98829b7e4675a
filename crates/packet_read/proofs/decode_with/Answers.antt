-- `decode_with` meets its contract, one return a line: the laws put the stages' words together.
-- Assumes nothing.
use Rattle.packet_read.proofs.BodyLaws.{read_more, read_err, read_too_many, read_bare, read_body}
use Rattle.packet_read.proofs.decode_with.Goals as goal

pub returns-in_err-packet : goal.returns-in_err-packet
returns-in_err-packet c = read_err _ _ _ _ _ _ _ c.from_residual.ensures c.in_err-packet.ensures

pub returns-in_default : goal.returns-in_default
returns-in_default c = read_more _ _ _ _ _ (rw c.in_default.is at c.in_ok-packet.ensures)

pub returns-then-most-count : goal.returns-then-most-count
returns-then-most-count c =
    let header = rw c.in-Some.is at c.in_ok-packet.ensures in
    read_too_many _ _ _ _ _ c.in-Some.packet header _ c.min-most.ensures _ c.if-most-count.true c.from.ensures

pub returns-then-has_variable_header : goal.returns-then-has_variable_header
returns-then-has_variable_header c =
    let header = rw c.in-Some.is at c.in_ok-packet.ensures in
    read_body _ _ _ _ _ c.in-Some.packet header _ c.min-most.ensures c.if-most-count.false _ c.has_variable_header.ensures _ _ c.if-has_variable_header.true c.body.ensures

pub returns : goal.returns
returns c =
    let header = rw c.in-Some.is at c.in_ok-packet.ensures in
    read_bare _ _ _ _ _ c.in-Some.packet header _ c.min-most.ensures c.if-most-count.false _ c.has_variable_header.ensures c.if-has_variable_header.false
