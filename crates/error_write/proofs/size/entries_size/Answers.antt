-- The contract, case by case. Assumes nothing.
use native.Mathlib.Omega.{arith}
use Rattle.error_write.proofs.SizeLaws.{adding, added, adds_on}
use Rattle.error_write.proofs.size.entries_size.Goals as goal

pub loop-k-init : goal.loop-k-init
loop-k-init c = adding _ _ _ _ (omega (arith, c.requires.ordered))

pub row_size-requires : goal.row_size-requires
row_size-requires c = omega (arith, c.requires.within)

pub loop-k-preserved : goal.loop-k-preserved
loop-k-preserved c = adds_on c.loop-k.invariant (omega arith) _ _ c.row_size.ensures c.add_capped-size.ensures (omega arith)

pub returns : goal.returns
returns c = added c.loop-k.invariant c.loop-k-test.false c.requires
