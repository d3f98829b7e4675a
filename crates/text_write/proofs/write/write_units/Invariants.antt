-- What `write::write_units` keeps true in its loop. Assumes nothing.
use Rattle.text_write.proofs.PutLaws.{UnitsToGo}
use Rattle.text_write.proofs.write.write_units.Given as goal

abbrev pub invariant-loop-byte : goal.invariant-loop-byte
invariant-loop-byte l = UnitsToGo l.bytes l.initial.out l.out l.at l.byte-index
