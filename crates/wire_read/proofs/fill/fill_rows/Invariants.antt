-- What is still to be stored over each table as it stands is the whole.
use Rattle.wire_read.proofs.FillLaws.{TablesLeft}
use Rattle.wire_read.proofs.fill.fill_rows.Given as goal

abbrev pub invariant-loop-row : goal.invariant-loop-row
invariant-loop-row l = TablesLeft l.input l.count l.initial.rows l.initial.values l.rows l.values l.row l.at l.k
