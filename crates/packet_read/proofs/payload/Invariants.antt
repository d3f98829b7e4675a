-- `payload` meets its contract. The invariant: so far no size is too large, and the payload is what those parts take.
-- Assumes nothing.
use mathlib.Core.Path.{◌≡◌}
use Prim.Native.Nat.{◌*◌, ◌≤◌, ◌-◌}
use Rattle.words.specs.Decide.{first_from}
use Rattle.packet.specs.Layout.{largest_part, taken_before}
use Rattle.packet_read.specs.Reading.{too_large, first_too_large}
use Rattle.packet_read.proofs.payload.Given as goal

abbrev pub invariant-loop-index : goal.invariant-loop-index
invariant-loop-index l = (l.payload ≡ taken_before l.input l.index) × (l.payload ≤ l.index * largest_part) × (first_from (too_large l.input) l.index (l.count - l.index) ≡ first_too_large l.input l.count)
