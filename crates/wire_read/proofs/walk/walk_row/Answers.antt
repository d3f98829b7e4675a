-- `walk::walk_row` meets its contract: the count is not there, is the null mark, is too large, or its values are walked. Assumes nothing.
use Rattle.std.proofs.lemmas.Result.{err_from_is_err_and}
use native.Mathlib.Omega.{arith}
use Rattle.wire.proofs.NeedLaws.{enough_room}
use Rattle.wire_read.proofs.WalkLaws.{row_short, row_null, row_many, row_values}
use Rattle.wire_read.proofs.walk.walk_row.Goals as goal

pub returns-then-count : goal.returns-then-count
returns-then-count c =
    row_null c.args.input.now c.args.row c.args.at (enough_room c.args.input.now c.args.at 8 _ c.need_at.ensures c.in_ok-need_at.was) _ c.read_u64-count.ensures c.if-count.true

pub returns-then-count-gt-MAX_VALUES_PER_ROW : goal.returns-then-count-gt-MAX_VALUES_PER_ROW
returns-then-count-gt-MAX_VALUES_PER_ROW c =
    row_many c.args.input.now c.args.row c.args.at (enough_room c.args.input.now c.args.at 8 _ c.need_at.ensures c.in_ok-need_at.was) _ c.read_u64-count.ensures c.if-count.false c.if-count-gt-MAX_VALUES_PER_ROW.true

pub walk_values-requires : goal.walk_values-requires
walk_values-requires c =
    omega (arith, enough_room c.args.input.now c.args.at 8 _ c.need_at.ensures c.in_ok-need_at.was)

pub returns-in_err-need_at : goal.returns-in_err-need_at
returns-in_err-need_at c =
    let exit = err_from_is_err_and c.from_residual.result c.from_residual.ensures.1 in
    rw (exit.1, exit.2)
    (row_short c.args.input.now c.args.row c.args.at _ c.need_at.ensures _ c.in_err-need_at.was)

pub returns : goal.returns
returns c =
    row_values c.args.input.now c.args.row c.args.at (enough_room c.args.input.now c.args.at 8 _ c.need_at.ensures c.in_ok-need_at.was) _ c.read_u64-count.ensures c.if-count.false c.if-count-gt-MAX_VALUES_PER_ROW.false c.walk_values.result c.walk_values.ensures
