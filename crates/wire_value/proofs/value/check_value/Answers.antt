-- `value::check_value` meets its contract: the header is not there, or the checks after it decide. Assumes nothing.
use Rattle.std.proofs.lemmas.Result.{err_from_is_err_and}
use native.Mathlib.Omega.{arith}
use Rattle.wire_value.proofs.OrderLaws.{header_short}
use Rattle.wire.proofs.NeedLaws.{enough_room}
use Rattle.wire_value.proofs.value.check_value.Goals as goal

pub check_payload-requires : goal.check_payload-requires
check_payload-requires c =
    (omega (arith, enough_room c.args.input.now c.args.at 8 _ c.need_at.ensures c.in_ok-need_at.was), c.read_header.ensures)

pub returns-in_err-need_at : goal.returns-in_err-need_at
returns-in_err-need_at c =
    let exit = err_from_is_err_and c.from_residual.result c.from_residual.ensures.1 in
    rw (exit.1, exit.2)
    (let both = header_short c.args.input.now c.args.at _ c.need_at.ensures _ c.in_err-need_at.was in record { checks_value = both.0; lies = both.1 })
