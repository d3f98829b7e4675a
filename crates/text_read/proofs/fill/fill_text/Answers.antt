-- `fill::fill_text` meets its contract. The invariant: the rows that were read lie in the tables and the area. Assumes nothing.
use native.Mathlib.Omega.{arith}
use Rattle.text_read.proofs.TextLaws.{text_begins, same_rows, same_values, same_area, text_ends, line_has, line_passed, row_room, text_more}
use Rattle.text_read.proofs.fill.fill_text.Goals as goal

pub loop-at-init : goal.loop-at-init
loop-at-init c = text_begins _ _ _ _

pub fill_line-line-requires : goal.fill_line-line-requires
fill_line-line-requires c = let start = c in line_has start.args.text.now start.args.rows.now start.args.values.now start.args.area.now start.requires _ _ _ _ _ _ _ c.loop-at.invariant c.loop-at-test.true

pub offset_bounds-rows-row : goal.offset_bounds-rows-row
offset_bounds-rows-row c =
    let fill-line = c.fill_line-line in
    let start = c in omega (arith, row_room start.args.text.now start.args.rows.now start.args.values.now start.args.area.now start.requires _ _ _ _ _ _ _ c.loop-at.invariant _ _ fill-line.result fill-line.ensures, start.well_formed)

pub bounds-rows-row : goal.bounds-rows-row
bounds-rows-row c =
    let turn = c in
    let fill-line = c.fill_line-line in
    let start = c in omega (arith, row_room start.args.text.now start.args.rows.now start.args.values.now start.args.area.now start.requires _ _ _ _ _ _ _ turn.loop-at.invariant _ _ fill-line.result fill-line.ensures, same_rows start.args.text.now start.args.rows.now start.args.values.now start.args.area.now start.requires _ _ _ _ _ _ _ turn.loop-at.invariant)

pub overflow_add-row : goal.overflow_add-row
overflow_add-row c =
    let fill-line = c.fill_line-line in
    let start = c in omega (arith, row_room start.args.text.now start.args.rows.now start.args.values.now start.args.area.now start.requires _ _ _ _ _ _ _ c.loop-at.invariant _ _ fill-line.result fill-line.ensures, start.well_formed)

pub loop-at-smaller : goal.loop-at-smaller
loop-at-smaller c =
    let fill-line = c.fill_line-line in
    let start = c in omega (arith, line_passed start.args.text.now start.args.rows.now start.args.values.now start.args.area.now start.requires _ _ _ _ _ _ _ c.loop-at.invariant _ _ fill-line.result fill-line.ensures, c.loop-at-test.true)

pub loop-at-preserved : goal.loop-at-preserved
loop-at-preserved c =
    let fill-line = c.fill_line-line in
    let start = c in text_more start.args.text.now start.args.rows.now start.args.values.now start.args.area.now start.requires _ _ _ _ _ _ _ c.loop-at.invariant _ _ fill-line.result fill-line.ensures

pub shape_of-rows : goal.shape_of-rows
shape_of-rows c = let start = c in same_rows start.args.text.now start.args.rows.now start.args.values.now start.args.area.now start.requires _ _ _ _ _ _ _ c.loop-at.invariant

pub shape_of-values : goal.shape_of-values
shape_of-values c = let start = c in same_values start.args.text.now start.args.rows.now start.args.values.now start.args.area.now start.requires _ _ _ _ _ _ _ c.loop-at.invariant

pub shape_of-area : goal.shape_of-area
shape_of-area c = let start = c in same_area start.args.text.now start.args.rows.now start.args.values.now start.args.area.now start.requires _ _ _ _ _ _ _ c.loop-at.invariant

pub returns : goal.returns
returns c = let start = c in text_ends start.args.text.now start.args.rows.now start.args.values.now start.args.area.now start.requires _ _ _ _ _ _ _ c.loop-at.invariant c.loop-at-test.false
