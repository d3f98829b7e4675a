-- What is left over is what the rows still to come must have.
use Rattle.std.proofs.Common.{◌≡◌, ◌+◌, drop}
use Rattle.wire_check.specs.Writing.{total}
use Rattle.wire_check.proofs.table.sums_to.Given as goal

abbrev pub invariant-loop-row : goal.invariant-loop-row
invariant-loop-row l = l.left + total l.rows ≡ l.entries + total (drop l.row-index l.rows)
