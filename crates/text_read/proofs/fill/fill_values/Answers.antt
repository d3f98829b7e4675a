-- `fill::fill_values` meets its contract. The invariant: the values that were read lie in the tables. Assumes nothing.
use native.Mathlib.Omega.{arith}
use Rattle.text_read.proofs.LineLaws.{values_begin, same_values, same_area, value_there, value_range, value_has, count_small, value_passed, values_same, area_same, values_more_left, values_end}
use Rattle.text_read.proofs.fill.fill_values.Goals as goal

pub loop-at-init : goal.loop-at-init
loop-at-init c = values_begin _ _ _ _ _ _

pub overflow_sub-text : goal.overflow_sub-text
overflow_sub-text c = let start = c in (value_range start.args.text.now start.args.start start.args.values.now start.args.first start.args.area.now start.args.before start.requires _ _ _ _ _ _ c.loop-at.invariant).0

pub overflow_cast-text : goal.overflow_cast-text
overflow_cast-text c = let start = c in omega (arith, (value_range start.args.text.now start.args.start start.args.values.now start.args.first start.args.area.now start.args.before start.requires _ _ _ _ _ _ c.loop-at.invariant).1)

pub fill_value-value-requires : goal.fill_value-value-requires
fill_value-value-requires c = let start = c in value_has start.args.text.now start.args.start start.args.values.now start.args.first start.args.area.now start.args.before start.requires _ _ _ _ _ _ c.loop-at.invariant

pub overflow_add-k : goal.overflow_add-k
overflow_add-k c = let start = c in omega (arith, (count_small start.args.text.now start.args.start start.args.values.now start.args.first start.args.area.now start.args.before start.requires _ _ _ _ _ _ c.loop-at.invariant).0, start.well_formed)

pub overflow_add-count : goal.overflow_add-count
overflow_add-count c = let start = c in omega (arith, (count_small start.args.text.now start.args.start start.args.values.now start.args.first start.args.area.now start.args.before start.requires _ _ _ _ _ _ c.loop-at.invariant).1, start.well_formed)

pub shape_of-values-then-value : goal.shape_of-values-then-value
shape_of-values-then-value c =
    let fill-value = c.fill_value-value in
    let start = c in values_same start.args.text.now start.args.start start.args.values.now start.args.first start.args.area.now start.args.before start.requires _ _ _ _ _ _ c.loop-at.invariant _ _ fill-value.result fill-value.ensures

pub shape_of-area-then-value : goal.shape_of-area-then-value
shape_of-area-then-value c =
    let fill-value = c.fill_value-value in
    let start = c in area_same start.args.text.now start.args.start start.args.values.now start.args.first start.args.area.now start.args.before start.requires _ _ _ _ _ _ c.loop-at.invariant _ _ fill-value.result fill-value.ensures

pub returns-then-value : goal.returns-then-value
returns-then-value c =
    let fill-value = c.fill_value-value in
    let start = c in values_end start.args.text.now start.args.start start.args.values.now start.args.first start.args.area.now start.args.before start.requires _ _ _ _ _ _ c.loop-at.invariant _ _ fill-value.result fill-value.ensures c.if-value.true

pub loop-at-smaller : goal.loop-at-smaller
loop-at-smaller c =
    let fill-value = c.fill_value-value in
    let start = c in omega (arith, value_passed start.args.text.now start.args.start start.args.values.now start.args.first start.args.area.now start.args.before start.requires _ _ _ _ _ _ c.loop-at.invariant _ _ fill-value.result fill-value.ensures, c.loop-at-test.true)

pub loop-at-preserved : goal.loop-at-preserved
loop-at-preserved c =
    let fill-value = c.fill_value-value in
    let start = c in values_more_left start.args.text.now start.args.start start.args.values.now start.args.first start.args.area.now start.args.before start.requires _ _ _ _ _ _ c.loop-at.invariant _ _ fill-value.result fill-value.ensures c.if-value.false

pub shape_of-values : goal.shape_of-values
shape_of-values c = let start = c in same_values start.args.text.now start.args.start start.args.values.now start.args.first start.args.area.now start.args.before start.requires _ _ _ _ _ _ c.loop-at.invariant

pub shape_of-area : goal.shape_of-area
shape_of-area c = let start = c in same_area start.args.text.now start.args.start start.args.values.now start.args.first start.args.area.now start.args.before start.requires _ _ _ _ _ _ c.loop-at.invariant

pub returns : goal.returns
returns c = let start = c in absurd (omega (arith, value_there start.args.text.now start.args.start start.args.values.now start.args.first start.args.area.now start.args.before start.requires _ _ _ _ _ _ c.loop-at.invariant, c.loop-at-test.false))
