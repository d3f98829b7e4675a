-- `validate` meets its contract, check by check. Assumes nothing.
use Rattle.packet.specs.Paper.{type_number}
use Rattle.packet_check.proofs.CheckLaws.{refuses_odd, refuses_outside, refuses_retired, refuses_many, refuses_large, passes_all}
use Rattle.packet_check.proofs.validate.Goals as goal

pub returns-then-parts-ne0 : goal.returns-then-parts-ne0
returns-then-parts-ne0 c =
    let start = c.args in
    refuses_odd start.mode (type_number start.packet_type) start.area.now start.parts.now c.if-parts-ne0.true

pub returns-then-outside-count : goal.returns-then-outside-count
returns-then-outside-count c =
    let start = c.args in
    refuses_outside start.mode (type_number start.packet_type) start.area.now start.parts.now c.if-parts-ne0.false c.first_outside-outside.ensures c.if-outside-count.true

pub returns-then-is_retired : goal.returns-then-is_retired
returns-then-is_retired c =
    let start = c.args in
    refuses_retired start.mode (type_number start.packet_type) start.area.now start.parts.now c.if-parts-ne0.false c.first_outside-outside.ensures c.if-outside-count.false c.is_retired.ensures c.if-is_retired.true c.from.ensures

pub returns-then-count : goal.returns-then-count
returns-then-count c =
    let start = c.args in
    refuses_many start.mode (type_number start.packet_type) start.area.now start.parts.now c.if-parts-ne0.false c.first_outside-outside.ensures c.if-outside-count.false c.is_retired.ensures c.if-is_retired.false c.if-count.true c.cap.ensures

pub returns-then-index-count : goal.returns-then-index-count
returns-then-index-count c =
    let start = c.args in
    refuses_large start.mode (type_number start.packet_type) start.area.now start.parts.now c.if-parts-ne0.false c.first_outside-outside.ensures c.if-outside-count.false c.is_retired.ensures c.if-is_retired.false c.if-count.false c.first_too_large-index.ensures c.if-index-count.true c.cap-then-index-count.ensures

pub returns : goal.returns
returns c =
    let start = c.args in
    passes_all start.mode (type_number start.packet_type) start.area.now start.parts.now c.if-parts-ne0.false c.first_outside-outside.ensures c.if-outside-count.false c.is_retired.ensures c.if-is_retired.false c.if-count.false c.first_too_large-index.ensures c.if-index-count.false
