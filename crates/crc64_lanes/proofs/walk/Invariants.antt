-- `walk` meets its contract. The loop's invariant: the registers, each at its place in what is still to come, give what the first
-- gives over all; and where the bytes are copied, those so far are. The measure is what is left of the length. Assumes nothing.
use mathlib.Core.Path.{◌≡◌}
use mathlib.Core.Bool.{true}
use Prim.Native.Nat.{◌+◌, ◌-◌, ◌≤◌}
use lib.ListN.{length, drop}
use Rattle.words.specs.Stages.{Filling}
use Rattle.crc64.specs.Polynomial.{fold}
use Rattle.crc64.specs.Table.{swapped}
use Rattle.crc64_lanes.specs.Stages.{waits}
use Rattle.crc64_lanes.proofs.walk.Given as goal

abbrev pub invariant-loop-i : goal.invariant-loop-i
invariant-loop-i l =
    (l.i + 24 ≤ length l.bytes) × (length l.lanes ≡ 4) × (waits l.lanes (drop l.i l.bytes) ≡ fold (swapped 8 l.register) l.bytes)
    × (length l.out ≡ length l.initial.out) × (l.copies ≡ true → Filling l.bytes (drop l.i l.bytes) l.initial.out l.out l.i)

abbrev pub decreases-loop-i : goal.decreases-loop-i
decreases-loop-i l =
    length l.bytes - l.i
