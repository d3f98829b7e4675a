-- What `write::write_rows` keeps true in its loop. Assumes nothing.
use Rattle.text_write.proofs.PutLaws.{RowsToGo}
use Rattle.text_write.proofs.write.write_rows.Given as goal

abbrev pub invariant-loop-count : goal.invariant-loop-count
invariant-loop-count l = RowsToGo l.area l.rows l.values l.initial.out l.out l.at l.k l.count-index
