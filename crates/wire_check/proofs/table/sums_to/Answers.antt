-- `table::sums_to` meets its contract. The invariant: what is left over is what the rows from i on must have.
-- Assumes nothing.
use mathlib.Core.Path.{refl}
use Rattle.wire_check.proofs.TableLaws.{sums_less, sums_more, sums_end}
use Rattle.wire_check.proofs.table.sums_to.Goals as goal

pub loop-row-init : goal.loop-row-init
loop-row-init c = refl

pub returns-then-left-count : goal.returns-then-left-count
returns-then-left-count c = sums_less _ _ _ _ c.loop-row.invariant _ c.loop-row-test.true c.values_in-count.ensures c.if-left-count.true

pub loop-row-preserved : goal.loop-row-preserved
loop-row-preserved c = sums_more _ _ _ _ c.loop-row.invariant _ c.loop-row-test.true c.values_in-count.ensures c.if-left-count.false

pub returns : goal.returns
returns c = sums_end _ _ _ _ c.loop-row.invariant c.loop-row-test.false
