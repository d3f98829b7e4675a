-- `part_lines` meets its contract. The invariant: the lines of the parts passed stand at `at`, at most 55 bytes each.
-- Assumes nothing.
use mathlib.Core.Path.{◌≡◌}
use Prim.Native.Nat.{◌+◌, ◌*◌, ◌≤◌}
use lib.ListN.{length}
use Rattle.listing.specs.Text.{part_lines}
use Rattle.listing.specs.Stages.{Wrote}
use Rattle.listing.proofs.part_lines.Given as goal

abbrev pub invariant-loop-index : goal.invariant-loop-index
invariant-loop-index l = (length l.out ≡ length l.initial.out) × (l.next ≤ l.at + 55 * l.index) × Wrote (part_lines l.parts l.index) l.at l.initial.out l.next l.out
