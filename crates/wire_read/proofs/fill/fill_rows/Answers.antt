-- `fill::fill_rows` meets its contract. The invariant: what is still to be stored over each table as it stands is the whole.
-- Assumes nothing.
use native.Mathlib.Omega.{arith}
use Rattle.wire_read.proofs.FillLaws.{tables_begin, row_lies, row_asks, tables_go, tables_end}
use Rattle.wire_read.proofs.fill.fill_rows.Goals as goal

pub loop-row-init : goal.loop-row-init
loop-row-init c =
    tables_begin _ _ _ _ c.requires.0 c.requires.1 c.requires.2

pub overflow_add-at : goal.overflow_add-at
overflow_add-at c = omega (arith, row_lies _ _ _ _ _ _ _ _ _ c.loop-row.invariant c.loop-row-test.true)

pub fill_values-at-requires : goal.fill_values-at-requires
fill_values-at-requires c = row_asks _ _ _ _ _ _ _ _ _ c.loop-row.invariant c.loop-row-test.true _ _ c.read_u64-word.ensures c.values_in-more.ensures

pub overflow_mul-k : goal.overflow_mul-k
overflow_mul-k c = omega (arith, row_asks _ _ _ _ _ _ _ _ _ c.loop-row.invariant c.loop-row-test.true _ _ c.read_u64-word.ensures c.values_in-more.ensures)

pub overflow_add-k : goal.overflow_add-k
overflow_add-k c = omega (arith, row_asks _ _ _ _ _ _ _ _ _ c.loop-row.invariant c.loop-row-test.true _ _ c.read_u64-word.ensures c.values_in-more.ensures)

pub loop-row-preserved : goal.loop-row-preserved
loop-row-preserved c = tables_go _ _ _ _ _ _ _ _ _ c.loop-row.invariant c.loop-row-test.true _ _ _ _ c.read_u64-word.ensures c.values_in-more.ensures c.fill_values-at.ensures.0 c.fill_values-at.ensures.1

pub shape_of-rows : goal.shape_of-rows
shape_of-rows c = c.loop-row.invariant.2

pub shape_of-values : goal.shape_of-values
shape_of-values c = c.loop-row.invariant.3

pub returns : goal.returns
returns c = tables_end _ _ _ _ _ _ _ _ _ c.loop-row.invariant c.loop-row-test.false
