-- `fold_held` meets its contract: that of `copy_held`, whose output is looked at by nobody. Assumes nothing.
use Rattle.crc64_fast.proofs.fold_held.Goals as goal

pub returns : goal.returns
returns c = c.copy_held.ensures.folded
