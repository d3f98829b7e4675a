-- `value::read_value` meets its contract: the checks refuse, or the value is the one that stands there.
-- Assumes nothing.
use Rattle.std.proofs.lemmas.Result.{err_from_is_err_and}
use native.Mathlib.Omega.{arith}
use Rattle.wire_value.proofs.ValueLaws.{value_got, value_refused, passed_kind, passed_room}
use Rattle.wire_value.proofs.value.read_value.Goals as goal

pub bits_at-bits-requires : goal.bits_at-bits-requires
bits_at-bits-requires c =
    (passed_room c.args.input.now c.args.at _ _ _ c.check_value.ensures.checks_value c.check_value.ensures.lies c.in_ok-header.was, passed_kind c.args.input.now c.args.at _ _ _ c.check_value.ensures.checks_value c.in_ok-header.was)

pub overflow_add-at : goal.overflow_add-at
overflow_add-at c =
    omega (arith, passed_room c.args.input.now c.args.at _ _ _ c.check_value.ensures.checks_value c.check_value.ensures.lies c.in_ok-header.was)

pub returns-in_err-header : goal.returns-in_err-header
returns-in_err-header c =
    let exit = err_from_is_err_and c.from_residual.result c.from_residual.ensures.1 in
    rw (exit.1, exit.2)
    (value_refused c.args.input.now c.args.at _ _ c.check_value.ensures.checks_value c.in_err-header.was)

pub returns : goal.returns
returns c =
    value_got c.args.input.now c.args.at _ _ _ _ _ c.check_value.ensures.checks_value c.in_ok-header.was c.bits_at-bits.ensures c.value_of.ensures
