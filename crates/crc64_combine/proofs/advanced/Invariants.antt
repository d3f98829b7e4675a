-- `crc64_combine::advanced`'s loop: the power is x^e, and e times what is left of the length are the steps still to go.
-- The measure is what is left. Assumes nothing.
use Prim.Native.Nat.{◌*◌}
use Rattle.crc64.specs.Polynomial.{steps}
use Rattle.crc64_combine.proofs.Loops.{Reached}
use Rattle.crc64_combine.proofs.advanced.Given as goal

abbrev pub invariant-loop-left : goal.invariant-loop-left
invariant-loop-left l = Reached l.power l.left l.register (steps (8 * l.length) l.a)

abbrev pub decreases-loop-left : goal.decreases-loop-left
decreases-loop-left l = l.left
