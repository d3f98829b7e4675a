-- `walk::walk_rowset` meets its contract: the row count is not there, or what is behind it decides. Assumes nothing.
use Rattle.std.proofs.lemmas.Result.{err_from_is_err_and}
use native.Mathlib.Omega.{arith}
use Rattle.wire.proofs.NeedLaws.{enough_room}
use Rattle.wire_read.proofs.WalkLaws.{head_short}
use Rattle.wire_read.proofs.walk.walk_rowset.Goals as goal

pub walk_body-requires : goal.walk_body-requires
walk_body-requires c =
    omega (arith, enough_room c.args.input.now 0 8 _ c.need_at.ensures c.in_ok-need_at.was)

pub returns-in_err-need_at : goal.returns-in_err-need_at
returns-in_err-need_at c =
    let exit = err_from_is_err_and c.from_residual.result c.from_residual.ensures.1 in
    rw (exit.1, exit.2)
    (head_short c.args.input.now _ c.need_at.ensures _ c.in_err-need_at.was)
