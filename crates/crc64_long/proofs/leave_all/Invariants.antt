-- `crc64_long::leave_all` meets its contract. The invariant: what is owed by the i bytes that left comes to what was owed. Assumes nothing.
use mathlib.Core.Path.{◌≡◌}
use Prim.Native.Nat.{◌-◌, ◌≤◌}
use lib.ListN.{length, take, drop}
use Rattle.crc64.specs.Polynomial.{fold}
use Rattle.crc64_sparse.specs.Stages.{places, owed}
use Rattle.crc64_long.proofs.leave_all.Given as goal

abbrev pub invariant-loop-i : goal.invariant-loop-i
invariant-loop-i l =
    (l.i ≤ l.count) × (length l.window ≡ 5952) × (fold 0 (owed places (take 1856 l.window) (drop l.i l.bytes)) ≡ fold 0 (owed places (take 1856 l.initial.window) l.bytes))

abbrev pub decreases-loop-i : goal.decreases-loop-i
decreases-loop-i l =
    l.count - l.i
