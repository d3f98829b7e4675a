-- The entries passed are good. Assumes nothing.
use Rattle.error_table.specs.Table.{bad_attribute, attributes_in}
use Rattle.error_table.proofs.TableLaws.{Seeking}
use Rattle.error_table.proofs.table.first_bad_attribute.Given as goal

abbrev pub invariant-loop-k : goal.invariant-loop-k
invariant-loop-k l = Seeking (bad_attribute l.size l.errors l.attributes) (attributes_in l.attributes) l.k
