-- The bytes still to be looked at decide.
use Rattle.std.proofs.Common.{◌≤◌, ◌+◌, ◌-◌}
use Rattle.wire_read.proofs.PlainLaws.{ZerosLeft}
use Rattle.wire_read.proofs.plain.zeros.Given as goal

abbrev pub invariant-loop-past : goal.invariant-loop-past
invariant-loop-past l = (l.past ≤ l.count) × ZerosLeft l.input l.count l.start (l.count - l.past) (l.start + l.past)
