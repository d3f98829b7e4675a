-- The contract, part by part. Assumes nothing.
use native.Mathlib.Omega.{arith}
use Rattle.varint.proofs.WriteLaws.{shrinking, shrinks_on, size_end}
use Rattle.varint.proofs.write.varint_size.Goals as goal

pub loop-rest-init : goal.loop-rest-init
loop-rest-init c = shrinking _ (omega arith)

pub overflow_add-i : goal.overflow_add-i
overflow_add-i c = omega (arith, c.loop-rest.invariant.few)

pub loop-rest-preserved : goal.loop-rest-preserved
loop-rest-preserved c = shrinks_on c.loop-rest.invariant c.loop-rest-test.true

pub overflow_add-result : goal.overflow_add-result
overflow_add-result c = omega (arith, c.loop-rest.invariant.few)

pub returns : goal.returns
returns c = size_end c.loop-rest.invariant c.loop-rest-test.false
