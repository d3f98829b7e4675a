-- The bytes still to be looked at decide.
use Rattle.std.proofs.Common.{◌≤◌, ◌+◌, ◌-◌}
use Rattle.why_rowset.proofs.PlainLaws.{PaddingLeft}
use Rattle.why_rowset.proofs.plain.padding.Given as goal

abbrev pub invariant-loop-past : goal.invariant-loop-past
invariant-loop-past l = (l.past ≤ l.count) × PaddingLeft l.input l.count l.start (l.count - l.past) (l.start + l.past)
