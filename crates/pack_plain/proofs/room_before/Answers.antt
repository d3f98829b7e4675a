-- `room_before` meets its contract. The invariant: the sum is that of the first i entries. Assumes nothing.
use native.Mathlib.Omega.{arith}
use Rattle.pack_plain.proofs.PlainLaws.{sum_begin, sum_more, sum_end}
use Rattle.pack_plain.proofs.room_before.Goals as goal

pub loop-i-init : goal.loop-i-init
loop-i-init c = sum_begin _

pub loop-i-preserved : goal.loop-i-preserved
loop-i-preserved c = (sum_more _ _ _ _ c.loop-i.invariant c.room_of.ensures _ c.add_capped-sum.ensures)

pub returns : goal.returns
returns c = sum_end _ _ _ _ c.loop-i.invariant (omega arith) (omega arith)
