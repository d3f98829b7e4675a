-- The rows still to be looked at decide.
use Rattle.wire_read.proofs.PlainLaws.{PlainRowsLeft}
use Rattle.wire_read.proofs.plain.plain_rows.Given as goal

abbrev pub invariant-loop-row : goal.invariant-loop-row
invariant-loop-row l = PlainRowsLeft l.input l.count l._row l.at
