-- What `rows_size` keeps true in its loop. Assumes nothing.
use Rattle.text_size.proofs.SizeLaws.{RowsLeft}
use Rattle.text_size.proofs.rows_size.Given as goal

abbrev pub invariant-loop-count : goal.invariant-loop-count
invariant-loop-count l = RowsLeft l.area l.rows l.values l.size l.k l.count-index
