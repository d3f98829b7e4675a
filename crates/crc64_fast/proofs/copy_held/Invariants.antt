-- `copy_held` meets its contract. The loop's invariant: whole words are left; what is still to come, from the register that 64
-- steps of x make beside what is kept, gives what all gives from the first; and what is to be copied so far is copied. The measure
-- is what is left of the length. Assumes nothing.
use mathlib.Core.Path.{◌≡◌}
use Prim.Native.Nat.{◌-◌, ◌%◌, ◌^◌, ◌≤◌, ◌<◌}
use lib.ListN.{length, drop}
use Rattle.crc64.specs.Polynomial.{fold}
use Rattle.crc64.specs.Table.{swapped}
use Rattle.crc64_fast.proofs.Stretch.{after}
use Rattle.crc64_fast.proofs.Walk.{So-far}
use Rattle.crc64_fast.proofs.copy_held.Given as goal

abbrev pub invariant-loop-i : goal.invariant-loop-i
invariant-loop-i l =
    (l.i ≤ length l.bytes) × ((length l.bytes - l.i) % 8 ≡ 0) × (l.kept < 2 ^ 64) × (fold (after l.x l.kept) (drop l.i l.bytes) ≡ fold (swapped 8 l.register) l.bytes)
    × So-far l.short l.bytes l.i l.initial.out l.out

abbrev pub decreases-loop-i : goal.decreases-loop-i
decreases-loop-i l =
    length l.bytes - l.i
