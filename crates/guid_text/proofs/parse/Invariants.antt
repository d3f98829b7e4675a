-- The machine goes on from here with what has been read of the field, and what it finds is what it finds in the whole text.
-- Assumes nothing.
use mathlib.Core.Path.{◌≡◌}
use Prim.Native.Nat.{◌-◌, ◌^◌, ◌<◌, ◌≤◌}
use lib.ListN.{drop}
use Rattle.places.specs.Machine.{run}
use Rattle.guid_text.proofs.Walk.{st, start, walk}
use Rattle.guid_text.proofs.parse.Given as goal

abbrev pub invariant-loop-at : goal.invariant-loop-at
invariant-loop-at l =
    (l.left ≤ 3)
    × (l.start ≤ l.at)
    × (l.at - l.start ≤ 8)
    × (l.w0 < 16 ^ (l.at - l.start))
    × (run walk (st l.left (l.at - l.start) l.w0 l.w1 l.w2 l.w3) l.at (drop l.at l.text) ≡ run walk start 0 l.text)
