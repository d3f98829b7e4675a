-- What is still to come says the last of each. Assumes nothing.
use Rattle.std.proofs.Common.{◌-◌}
use Rattle.error_read.proofs.FillLaws.{Scanning}
use Rattle.error_read.proofs.fill.scan.Given as goal

abbrev pub invariant-loop-at : goal.invariant-loop-at
invariant-loop-at l = Scanning l.known l.input l.start l.end l.at l.own

abbrev pub decreases-loop-at : goal.decreases-loop-at
decreases-loop-at l = l.end - l.at
