-- The contract, case by case. Assumes nothing.
use native.Mathlib.Omega.{arith}
use Rattle.error_write.proofs.MeasureLaws.{measuring_begin, entry_pending, entry_fits, depth_fits, sums_long, measuring_on, root_pending, root_fits, root_long, measured}
use Rattle.error_write.proofs.size.measure.Goals as goal

pub loop-i-init : goal.loop-i-init
loop-i-init c = measuring_begin c.requires c.is_sorted-sorted.ensures

pub first_row-from-requires : goal.first_row-from-requires
first_row-from-requires c = entry_pending c.requires c.loop-i.invariant c.loop-i-test.true

pub entries_size-requires : goal.entries_size-requires
entries_size-requires c = c.first_row-from.ensures.0

pub own_size-own-requires : goal.own_size-own-requires
own_size-own-requires c = entry_fits c.requires c.loop-i.invariant c.loop-i-test.true

pub overflow_mul-depth : goal.overflow_mul-depth
overflow_mul-depth c = omega (arith, entry_fits c.requires c.loop-i.invariant c.loop-i-test.true)

pub overflow_add-depth : goal.overflow_add-depth
overflow_add-depth c = omega (arith, entry_fits c.requires c.loop-i.invariant c.loop-i-test.true)

pub offset_bounds-errors-i : goal.offset_bounds-errors-i
offset_bounds-errors-i c = omega (arith, entry_fits c.requires c.loop-i.invariant c.loop-i-test.true)

pub bounds-errors-i : goal.bounds-errors-i
bounds-errors-i c = omega (arith, entry_fits c.requires c.loop-i.invariant c.loop-i-test.true)

pub overflow_add-depth-in-loop-i : goal.overflow_add-depth-in-loop-i
overflow_add-depth-in-loop-i c = omega (arith, depth_fits c.requires c.loop-i.invariant c.loop-i-test.true)

pub offset_bounds-sums-depth : goal.offset_bounds-sums-depth
offset_bounds-sums-depth c = omega (arith, depth_fits c.requires c.loop-i.invariant c.loop-i-test.true)

pub bounds-sums-depth : goal.bounds-sums-depth
bounds-sums-depth c =
    let loop-test = c.loop-i-test in
    omega (arith, depth_fits c.requires c.loop-i.invariant loop-test.true, sums_long c.requires c.loop-i.invariant loop-test.true)

pub offset_bounds-sums-depth-in-loop-i : goal.offset_bounds-sums-depth-in-loop-i
offset_bounds-sums-depth-in-loop-i c = omega (arith, depth_fits c.requires c.loop-i.invariant c.loop-i-test.true)

pub bounds-sums-depth-in-loop-i : goal.bounds-sums-depth-in-loop-i
bounds-sums-depth-in-loop-i c =
    let loop-test = c.loop-i-test in
    omega (arith, depth_fits c.requires c.loop-i.invariant loop-test.true, sums_long c.requires c.loop-i.invariant loop-test.true)

pub overflow_add-sums : goal.overflow_add-sums
overflow_add-sums c = omega (arith, depth_fits c.requires c.loop-i.invariant c.loop-i-test.true)

pub offset_bounds-sums-depth-in-loop-i-2 : goal.offset_bounds-sums-depth-in-loop-i-2
offset_bounds-sums-depth-in-loop-i-2 c = omega (arith, depth_fits c.requires c.loop-i.invariant c.loop-i-test.true)

pub bounds-sums-depth-in-loop-i-2 : goal.bounds-sums-depth-in-loop-i-2
bounds-sums-depth-in-loop-i-2 c =
    let loop-test = c.loop-i-test in
    omega (arith, depth_fits c.requires c.loop-i.invariant loop-test.true, sums_long c.requires c.loop-i.invariant loop-test.true)

pub offset_bounds-sums-depth-in-loop-i-3 : goal.offset_bounds-sums-depth-in-loop-i-3
offset_bounds-sums-depth-in-loop-i-3 c = omega (arith, depth_fits c.requires c.loop-i.invariant c.loop-i-test.true)

pub bounds-sums-depth-in-loop-i-3 : goal.bounds-sums-depth-in-loop-i-3
bounds-sums-depth-in-loop-i-3 c = omega (arith, depth_fits c.requires c.loop-i.invariant c.loop-i-test.true)

pub loop-i-preserved : goal.loop-i-preserved
loop-i-preserved c = measuring_on c.requires c.loop-i.invariant c.loop-i-test.true c.entries_size.ensures c.own_size-own.ensures c.add_capped-body.ensures c.first_row-from.ensures c.row_before-till.ensures c.delimited_size.ensures c.add_capped-sum.ensures

pub first_row-from-requires-2 : goal.first_row-from-requires-2
first_row-from-requires-2 c = root_pending c.requires c.loop-i.invariant c.loop-i-test.false

pub entries_size-requires-2 : goal.entries_size-requires-2
entries_size-requires-2 c = c.first_row-from-2.ensures.0

pub own_size-own-requires-2 : goal.own_size-own-requires-2
own_size-own-requires-2 c = root_fits c.requires c.loop-i.invariant c.loop-i-test.false

pub bounds-sums-2 : goal.bounds-sums-2
bounds-sums-2 c = omega (arith, root_long c.requires c.loop-i.invariant c.loop-i-test.false)

pub returns : goal.returns
returns c = measured c.requires c.loop-i.invariant c.loop-i-test.false c.entries_size-2.ensures c.own_size-own-2.ensures c.add_capped.ensures
