-- The words of the pairs so far stand over the table's front. Assumes nothing.
use Rattle.std.proofs.Common.{◌*◌}
use Rattle.yson.proofs.FillLaws.{Filling}
use Rattle.yson.proofs.fill.Given as goal

abbrev pub invariant-loop-item : goal.invariant-loop-item
invariant-loop-item l = Filling l.s l.start l.items l.at (4 * l.item) l.fn.table l.table
