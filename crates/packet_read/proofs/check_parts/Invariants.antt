-- `check_parts` meets its contract. The invariant: the next part begins at `at`, and no part before it fails.
-- Assumes nothing.
use mathlib.Core.Path.{◌≡◌}
use Prim.Native.Nat.{◌-◌}
use Rattle.words.specs.Decide.{first_from}
use Rattle.packet.specs.Layout.{start}
use Rattle.packet_read.specs.Reading.{part_fails, first_failing}
use Rattle.packet_read.proofs.check_parts.Given as goal

abbrev pub invariant-loop-index : goal.invariant-loop-index
invariant-loop-index l = (l.at ≡ start l.input l.count l.index) × (first_from (part_fails l.input l.count) l.index (l.count - l.index) ≡ first_failing l.input l.count)
