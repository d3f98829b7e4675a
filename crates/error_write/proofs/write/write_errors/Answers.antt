-- The contract, case by case. Assumes nothing.
use native.Mathlib.Omega.{arith}
use Rattle.error_write.proofs.WriteLaws.{going, entries_right, head_fits, head_place, head_room, going_on, root_entries, root_room, gone}
use Rattle.error_write.proofs.MeasureLaws.{entry_pending, entry_fits, depth_fits, sums_long, root_pending}
use Rattle.error_write.proofs.write.write_errors.Goals as goal

pub loop-i-init : goal.loop-i-init
loop-i-init c =
    going c.requires.0 c.args.total c.args.out.now c.requires.1 c.requires.2 (omega (arith, c.well_formed)) c.is_sorted-sorted.ensures

pub first_row-from-requires : goal.first_row-from-requires
first_row-from-requires c = entry_pending c.requires.0 c.loop-i.invariant.measuring c.loop-i-test.true

pub entries_size-entries-requires : goal.entries_size-entries-requires
entries_size-entries-requires c = c.first_row-from.ensures.0

pub own_size-own-requires : goal.own_size-own-requires
own_size-own-requires c = entry_fits c.requires.0 c.loop-i.invariant.measuring c.loop-i-test.true

pub overflow_mul-depth : goal.overflow_mul-depth
overflow_mul-depth c = omega (arith, entry_fits c.requires.0 c.loop-i.invariant.measuring c.loop-i-test.true)

pub overflow_add-depth : goal.overflow_add-depth
overflow_add-depth c = omega (arith, entry_fits c.requires.0 c.loop-i.invariant.measuring c.loop-i-test.true)

pub offset_bounds-tables-i : goal.offset_bounds-tables-i
offset_bounds-tables-i c = omega (arith, entry_fits c.requires.0 c.loop-i.invariant.measuring c.loop-i-test.true)

pub bounds-tables-i : goal.bounds-tables-i
bounds-tables-i c = omega (arith, entry_fits c.requires.0 c.loop-i.invariant.measuring c.loop-i-test.true)

pub overflow_add-depth-in-loop-i : goal.overflow_add-depth-in-loop-i
overflow_add-depth-in-loop-i c = omega (arith, depth_fits c.requires.0 c.loop-i.invariant.measuring c.loop-i-test.true)

pub offset_bounds-sums-depth : goal.offset_bounds-sums-depth
offset_bounds-sums-depth c = omega (arith, depth_fits c.requires.0 c.loop-i.invariant.measuring c.loop-i-test.true)

pub bounds-sums-depth : goal.bounds-sums-depth
bounds-sums-depth c =
    let loop-test = c.loop-i-test in
    omega (arith, depth_fits c.requires.0 c.loop-i.invariant.measuring loop-test.true, sums_long c.requires.0 c.loop-i.invariant.measuring loop-test.true)

pub overflow_add-size : goal.overflow_add-size
overflow_add-size c =
    omega (arith, head_fits c.requires.0 c.args.total c.args.out.now c.requires.1 c.requires.2 (omega (arith, c.well_formed)) c.loop-i.invariant c.loop-i-test.true c.entries_size-entries.ensures c.own_size-own.ensures c.add_capped-body.ensures c.varint_size.ensures)

pub overflow_add-size-in-loop-i : goal.overflow_add-size-in-loop-i
overflow_add-size-in-loop-i c =
    omega (arith, head_fits c.requires.0 c.args.total c.args.out.now c.requires.1 c.requires.2 (omega (arith, c.well_formed)) c.loop-i.invariant c.loop-i-test.true c.entries_size-entries.ensures c.own_size-own.ensures c.add_capped-body.ensures c.varint_size.ensures)

pub overflow_sub-at : goal.overflow_sub-at
overflow_sub-at c =
    head_fits c.requires.0 c.args.total c.args.out.now c.requires.1 c.requires.2 (omega (arith, c.well_formed)) c.loop-i.invariant c.loop-i-test.true c.entries_size-entries.ensures c.own_size-own.ensures c.add_capped-body.ensures c.varint_size.ensures

pub slice_bounds-put_inner-count : goal.slice_bounds-put_inner-count
slice_bounds-put_inner-count c =
    head_place c.requires.0 c.args.total c.args.out.now c.requires.1 c.requires.2 (omega (arith, c.well_formed)) c.loop-i.invariant c.loop-i-test.true c.entries_size-entries.ensures c.own_size-own.ensures c.add_capped-body.ensures c.varint_size.ensures

pub slice_bounds-put_inner-start : goal.slice_bounds-put_inner-start
slice_bounds-put_inner-start c =
    head_place c.requires.0 c.args.total c.args.out.now c.requires.1 c.requires.2 (omega (arith, c.well_formed)) c.loop-i.invariant c.loop-i-test.true c.entries_size-entries.ensures c.own_size-own.ensures c.add_capped-body.ensures c.varint_size.ensures

pub put_inner-requires : goal.put_inner-requires
put_inner-requires c =
    let loop-test = c.loop-i-test in
    let entries-size = c.entries_size-entries in
    let own-size = c.own_size-own in
    (c.requires.0, omega (arith, c.loop-i.invariant.measuring.high, loop-test.true), c.first_row-from.ensures.0, entries_right c.requires.0 c.args.total c.args.out.now c.requires.1 c.requires.2 (omega (arith, c.well_formed)) c.loop-i.invariant loop-test.true entries-size.ensures own-size.ensures c.add_capped-body.ensures c.varint_size.ensures, head_room c.requires.0 c.args.total c.args.out.now c.requires.1 c.requires.2 (omega (arith, c.well_formed)) c.loop-i.invariant loop-test.true entries-size.ensures own-size.ensures c.add_capped-body.ensures c.varint_size.ensures)

pub offset_bounds-sums-depth-in-loop-i : goal.offset_bounds-sums-depth-in-loop-i
offset_bounds-sums-depth-in-loop-i c = omega (arith, depth_fits c.requires.0 c.loop-i.invariant.measuring c.loop-i-test.true)

pub bounds-sums-depth-in-loop-i : goal.bounds-sums-depth-in-loop-i
bounds-sums-depth-in-loop-i c =
    let loop-test = c.loop-i-test in
    omega (arith, depth_fits c.requires.0 c.loop-i.invariant.measuring loop-test.true, sums_long c.requires.0 c.loop-i.invariant.measuring loop-test.true)

pub overflow_add-sums : goal.overflow_add-sums
overflow_add-sums c = omega (arith, depth_fits c.requires.0 c.loop-i.invariant.measuring c.loop-i-test.true)

pub offset_bounds-sums-depth-in-loop-i-2 : goal.offset_bounds-sums-depth-in-loop-i-2
offset_bounds-sums-depth-in-loop-i-2 c = omega (arith, depth_fits c.requires.0 c.loop-i.invariant.measuring c.loop-i-test.true)

pub bounds-sums-depth-in-loop-i-2 : goal.bounds-sums-depth-in-loop-i-2
bounds-sums-depth-in-loop-i-2 c =
    let loop-test = c.loop-i-test in
    omega (arith, depth_fits c.requires.0 c.loop-i.invariant.measuring loop-test.true, sums_long c.requires.0 c.loop-i.invariant.measuring loop-test.true)

pub offset_bounds-sums-depth-in-loop-i-3 : goal.offset_bounds-sums-depth-in-loop-i-3
offset_bounds-sums-depth-in-loop-i-3 c = omega (arith, depth_fits c.requires.0 c.loop-i.invariant.measuring c.loop-i-test.true)

pub bounds-sums-depth-in-loop-i-3 : goal.bounds-sums-depth-in-loop-i-3
bounds-sums-depth-in-loop-i-3 c = omega (arith, depth_fits c.requires.0 c.loop-i.invariant.measuring c.loop-i-test.true)

pub loop-i-preserved : goal.loop-i-preserved
loop-i-preserved c =
    going_on c.requires.0 c.args.total c.args.out.now c.requires.1 c.requires.2 (omega (arith, c.well_formed)) c.loop-i.invariant c.loop-i-test.true c.entries_size-entries.ensures c.own_size-own.ensures c.add_capped-body.ensures c.varint_size.ensures c.first_row-from.ensures c.row_before-till.ensures c.delimited_size.ensures c.add_capped-sum.ensures c.put_inner.ensures

pub first_row-from-requires-2 : goal.first_row-from-requires-2
first_row-from-requires-2 c = root_pending c.requires.0 c.loop-i.invariant.measuring c.loop-i-test.false

pub entries_size-requires : goal.entries_size-requires
entries_size-requires c = c.first_row-from-2.ensures.0

pub put_own-requires : goal.put_own-requires
put_own-requires c =
    let loop-test = c.loop-i-test in
    (c.requires.0, c.requires.0.some, c.first_row-from-2.ensures.0, root_entries c.requires.0 c.args.total c.args.out.now c.requires.1 c.requires.2 (omega (arith, c.well_formed)) c.loop-i.invariant loop-test.false c.entries_size.ensures, root_room c.requires.0 c.args.total c.args.out.now c.requires.1 c.requires.2 (omega (arith, c.well_formed)) c.loop-i.invariant loop-test.false)

pub returns : goal.returns
returns c =
    gone c.requires.0 c.args.total c.args.out.now c.requires.1 c.requires.2 (omega (arith, c.well_formed)) c.loop-i.invariant c.loop-i-test.false c.put_own.ensures
