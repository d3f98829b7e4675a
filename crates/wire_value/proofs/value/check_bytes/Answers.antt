-- `value::check_bytes` meets its contract: the bytes are not there, or they are. Assumes nothing.
use Rattle.std.proofs.lemmas.Result.{err_from_is_err_and}
use native.Mathlib.Omega.{arith}
use Rattle.wire_value.proofs.OrderLaws.{payload_lacks, payload_there, payload_passes}
use Rattle.wire_value.proofs.value.check_bytes.Goals as goal

pub overflow_add-result-2 : goal.overflow_add-result-2
overflow_add-result-2 c =
    omega (arith, payload_there c.args.input.now c.args.at c.args.header c.requires.1 c.requires.0 c.args.size c.requires.2 _ c.need_at.ensures c.in_ok-need_at.was)

pub returns-in_err-need_at : goal.returns-in_err-need_at
returns-in_err-need_at c =
    let exit = err_from_is_err_and c.from_residual.result c.from_residual.ensures.1 in
    rw (exit.1, exit.2)
    (let both = payload_lacks c.args.input.now c.args.at c.args.header c.requires.1 c.requires.0 c.args.size c.requires.2 _ c.need_at.ensures _ c.in_err-need_at.was in record { checks_value = both.0; lies = both.1 })

pub returns : goal.returns
returns c =
    let both = payload_passes c.args.input.now c.args.at c.args.header c.requires.1 c.requires.0 c.args.size c.requires.2 _ c.need_at.ensures c.in_ok-need_at.was in
    record { checks_value = both.0; lies = both.1 }
