-- `read_u64_at` meets its contract: the bytes are not there, or they are the word. Assumes nothing.
use native.Mathlib.Omega.{arith}
use Rattle.std.proofs.lemmas.Result.{err_from_is_err_and}
use Rattle.wire_reader.proofs.NeedLaws.{word_room, word_got, word_refused}
use Rattle.wire_reader.proofs.read_u64_at.Goals as goal

pub overflow_add-result : goal.overflow_add-result
overflow_add-result c =
    omega (arith, word_room c.args.input.now c.args.offset _ c.need_at.ensures c.in_ok-need_at.was)

pub returns-in_err-need_at : goal.returns-in_err-need_at
returns-in_err-need_at c =
    let exit = err_from_is_err_and c.from_residual.result c.from_residual.ensures.1 in
    rw (exit.1, exit.2)
    (word_refused c.args.input.now c.args.offset _ c.need_at.ensures _ c.in_err-need_at.was)

pub returns : goal.returns
returns c =
    word_got c.args.input.now c.args.offset _ c.need_at.ensures c.in_ok-need_at.was _ c.read_u64.ensures
