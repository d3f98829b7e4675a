-- The contract, part by part. Assumes nothing.
use native.Mathlib.Omega.{arith}
use Rattle.error_write.proofs.CappedLaws.{adds_most, adds}
use Rattle.error_write.proofs.size.add_capped.Goals as goal

pub returns-then-a-b : goal.returns-then-a-b
returns-then-a-b c = adds_most _ _ (omega arith) c.if-a-b.true

pub returns : goal.returns
returns c = adds _ _ (omega arith) c.if-a-b.false
