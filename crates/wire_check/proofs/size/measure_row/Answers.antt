-- `size::measure_row` meets its contract: the row's word is too much, its values are too many, or they are walked.
-- Assumes nothing.
use Rattle.std.proofs.lemmas.Result.{err_from_is_err_and}
use Rattle.wire_check.proofs.WalkLaws.{row_large, row_within, row_many, row_values}
use Rattle.wire_check.proofs.size.measure_row.Goals as goal

pub returns-then-n-gt-MAX_VALUES_PER_ROW : goal.returns-then-n-gt-MAX_VALUES_PER_ROW
returns-then-n-gt-MAX_VALUES_PER_ROW c =
    row_many c.args.values.now c.args.count c.args.row c.args.k c.args.before c.add_to_rowset_size.result c.add_to_rowset_size.ensures _ c.in_ok-size.was _ c.values_in-n.ensures c.if-n-gt-MAX_VALUES_PER_ROW.true

pub measure_values-requires : goal.measure_values-requires
measure_values-requires c =
    row_within c.args.values.now c.args.count c.args.row c.args.k c.args.before c.add_to_rowset_size.result c.add_to_rowset_size.ensures _ c.in_ok-size.was _ c.values_in-n.ensures c.requires.0

pub returns-in_err-size : goal.returns-in_err-size
returns-in_err-size c =
    let exit = err_from_is_err_and c.from_residual.result c.from_residual.ensures.1 in
    rw (exit.1, exit.2)
    (row_large c.args.values.now c.args.count c.args.row c.args.k c.args.before c.add_to_rowset_size.result c.add_to_rowset_size.ensures _ c.in_err-size.was)

pub returns : goal.returns
returns c =
    row_values c.args.values.now c.args.count c.args.row c.args.k c.args.before c.add_to_rowset_size.result c.add_to_rowset_size.ensures _ c.in_ok-size.was _ c.values_in-n.ensures c.if-n-gt-MAX_VALUES_PER_ROW.false c.measure_values.result c.measure_values.ensures
