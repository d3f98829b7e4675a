-- What `check::are_digits` keeps true in its loop. Assumes nothing.
use mathlib.Core.Path.{◌≡◌}
use Prim.Native.Nat.{◌-◌}
use Rattle.text_walk.specs.Stages.{Digits}
use Rattle.text_walk.proofs.check.are_digits.Given as goal

abbrev pub invariant-loop-k : goal.invariant-loop-k
invariant-loop-k l = l.misfits ≡ 0 → Digits l.k l.bytes

abbrev pub decreases-loop-k : goal.decreases-loop-k
decreases-loop-k l = 16 - l.k
