-- The contract, case by case. Assumes nothing.
use native.Mathlib.Omega.{arith}
use Rattle.error_write.proofs.PutLaws.{putting, row_place_lem, row_room, row_fits, puts_on, put_all}
use Rattle.error_write.proofs.write.put_entries.Goals as goal

pub loop-k-init : goal.loop-k-init
loop-k-init c =
    putting c.args.tables.area.now c.args.tables.attributes.now c.args.entry.number _ _ c.requires.1 c.args.out.now c.requires.2

pub slice_bounds-put_row-count : goal.slice_bounds-put_row-count
slice_bounds-put_row-count c =
    row_place_lem c.args.tables.area.now c.args.tables.attributes.now c.args.entry.number c.loop-k.invariant c.loop-k-test.true

pub slice_bounds-put_row-start : goal.slice_bounds-put_row-start
slice_bounds-put_row-start c =
    row_place_lem c.args.tables.area.now c.args.tables.attributes.now c.args.entry.number c.loop-k.invariant c.loop-k-test.true

pub put_row-at-requires : goal.put_row-at-requires
put_row-at-requires c =
    (c.requires.0, omega (arith, c.requires.1.within, c.loop-k-test.true), row_room c.args.tables.area.now c.args.tables.attributes.now c.args.entry.number c.loop-k.invariant c.loop-k-test.true)

pub overflow_add-at : goal.overflow_add-at
overflow_add-at c =
    omega (arith, row_fits c.args.tables.area.now c.args.tables.attributes.now c.args.entry.number c.loop-k.invariant c.loop-k-test.true c.put_row-at.ensures.0, c.well_formed)

pub loop-k-preserved : goal.loop-k-preserved
loop-k-preserved c =
    puts_on c.args.tables.area.now c.args.tables.attributes.now c.args.entry.number c.loop-k.invariant c.loop-k-test.true c.put_row-at.new.out _ c.put_row-at.ensures

pub returns : goal.returns
returns c =
    put_all c.args.tables.area.now c.args.tables.attributes.now c.args.entry.number c.loop-k.invariant c.loop-k-test.false
