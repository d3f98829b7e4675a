-- What was read so far, and what is still to come, is the whole. Assumes nothing.
use Rattle.std.proofs.Common.{◌-◌}
use Rattle.varint.proofs.ReadLaws.{Running}
use Rattle.varint.proofs.read.read_within.Given as goal

abbrev pub invariant-loop : goal.invariant-loop
invariant-loop l = Running l.input l.start l.at l.value l.weight (9 - l.counter)
