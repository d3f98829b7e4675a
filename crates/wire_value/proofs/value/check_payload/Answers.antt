-- `value::check_payload` meets its contract: the header refused, or its payload looked for. Assumes nothing.
use Rattle.std.proofs.lemmas.Result.{err_from_is_err_and}
use Rattle.wire_value.proofs.OrderLaws.{header_fails, header_looks}
use Rattle.wire_value.proofs.value.check_payload.Goals as goal

pub check_bytes-requires : goal.check_bytes-requires
check_bytes-requires c =
    (c.requires.0, c.requires.1, header_looks c.args.input.now c.args.at c.args.header c.requires.1 c.requires.0 _ c.payload_size.ensures _ c.in_ok-size.was)

pub returns-in_err-size : goal.returns-in_err-size
returns-in_err-size c =
    let exit = err_from_is_err_and c.from_residual.result c.from_residual.ensures.1 in
    rw (exit.1, exit.2)
    (let both = header_fails c.args.input.now c.args.at c.args.header c.requires.1 c.requires.0 _ c.payload_size.ensures _ c.in_err-size.was in record { checks_value = both.0; lies = both.1 })
