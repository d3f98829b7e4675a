-- Each row beside the one before it. Assumes nothing.
use native.Mathlib.Omega.{arith}
use Rattle.error_write.proofs.RowLaws.{sorted_begin, sorted_on, sorted_all}
use Rattle.error_write.proofs.rows.is_sorted.Goals as goal

pub loop-k-init : goal.loop-k-init
loop-k-init c = sorted_begin c.args.attributes.now

pub returns-then-attributes-k : goal.returns-then-attributes-k
returns-then-attributes-k c = tt

pub loop-k-preserved : goal.loop-k-preserved
loop-k-preserved c =
    sorted_on c.args.attributes.now c.loop-k.k (omega arith) c.loop-k.invariant c.if-attributes-k.false

pub returns : goal.returns
returns c = sorted_all c.args.attributes.now _ c.loop-k.invariant (omega arith)
