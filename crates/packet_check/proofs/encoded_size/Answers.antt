-- `encoded_size` meets its contract: the refusal is that of `validate`, and what passes is measured. Assumes nothing.
use Rattle.packet.specs.Paper.{type_number}
use Rattle.packet_check.proofs.CheckLaws.{validated, sizing_err, sizing_passes}
use Rattle.packet_check.proofs.encoded_size.Goals as goal

pub size-requires : goal.size-requires
size-requires c =
    let start = c.args in
    let good = (validated start.mode (type_number start.packet_type) start.area.now start.parts.now (c.in_ok-validate.ensures)).0 in
    (good.few, good.small)

pub returns-in_err-validate : goal.returns-in_err-validate
returns-in_err-validate c =
    let start = c.args in
    sizing_err start.mode (type_number start.packet_type) start.area.now start.parts.now c.in_err-validate.field-0.0 c.from_residual.result c.from_residual.ensures c.in_err-validate.ensures

pub returns : goal.returns
returns c =
    let start = c.args in
    sizing_passes start.mode (type_number start.packet_type) start.area.now start.parts.now (c.in_ok-validate.ensures) c.size.ensures
