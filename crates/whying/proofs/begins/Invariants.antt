-- `begins` meets its contract. The invariant: the bytes still to be compared decide. Assumes nothing.
use Rattle.whying.proofs.OutputLaws.{StartsLeft}
use Rattle.whying.proofs.begins.Given as goal

abbrev pub invariant-loop-index : goal.invariant-loop-index
invariant-loop-index l = StartsLeft l.word l.input l.index
