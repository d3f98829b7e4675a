-- The values still to be looked at decide.
use Rattle.std.proofs.Common.{◌-◌}
use Rattle.wire_read.proofs.PlainLaws.{PlainLeft}
use Rattle.wire_read.proofs.plain.plain_values.Given as goal

abbrev pub invariant-loop-n : goal.invariant-loop-n
invariant-loop-n l = PlainLeft l.input l.count l.start (l.count - l._n) l.at
