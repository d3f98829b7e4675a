-- The bytes of the rows passed stand in front. Assumes nothing.
use Rattle.error_write.proofs.PutLaws.{Putting}
use Rattle.error_write.proofs.write.put_entries.Given as goal

abbrev pub invariant-loop-k : goal.invariant-loop-k
invariant-loop-k l = Putting l.tables.area.now l.tables.attributes.now l.entry.number l.entry.from l.entry.till l.initial.out l.out l.at l.k
