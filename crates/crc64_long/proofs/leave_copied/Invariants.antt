-- `crc64_long::leave_copied` meets its contract. The invariant: what is owed by the i bytes that left comes to what was owed, and
-- they are copied. Assumes nothing.
use mathlib.Core.Path.{◌≡◌}
use Prim.Native.Nat.{◌-◌, ◌≤◌}
use lib.ListN.{length, take, drop}
use Rattle.words.specs.Stages.{Filling}
use Rattle.crc64.specs.Polynomial.{fold}
use Rattle.crc64_sparse.specs.Stages.{span, places, owed}
use Rattle.crc64_long.specs.Stages.{window_size}
use Rattle.crc64_long.proofs.leave_copied.Given as goal

abbrev pub invariant-loop-i : goal.invariant-loop-i
invariant-loop-i l =
    (l.i ≤ l.count) × (length l.window ≡ window_size) × (fold 0 (owed places (take span l.window) (drop l.i l.bytes)) ≡ fold 0 (owed places (take span l.initial.window) l.bytes))
    × Filling l.bytes (drop l.i l.bytes) l.initial.out l.out l.i

abbrev pub decreases-loop-i : goal.decreases-loop-i
decreases-loop-i l =
    l.count - l.i
