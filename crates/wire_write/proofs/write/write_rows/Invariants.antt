-- What is still to come goes behind what stands in front.
use Rattle.wire_write.proofs.BytesLaws.{RowsToGo}
use Rattle.wire_write.proofs.write.write_rows.Given as goal

abbrev pub invariant-loop-count : goal.invariant-loop-count
invariant-loop-count l = RowsToGo l.area l.rows l.values l.initial.out l.out l.at l.k l.count-index
