-- `payload` meets its contract. The invariant: what was added up, with what is still to come, is the whole.
-- Assumes nothing.
use mathlib.Core.Path.{◌≡◌}
use Prim.Native.Nat.{◌+◌, ◌*◌, ◌≤◌, ◌-◌}
use Rattle.packet.specs.Layout.{largest_part}
use Rattle.packet.specs.Entries.{room}
use Rattle.packet_check.specs.Stages.{taken_from}
use Rattle.packet_check.proofs.payload.Given as goal

abbrev pub invariant-loop-index : goal.invariant-loop-index
invariant-loop-index l = (l.total ≤ largest_part * l.index) × (l.total + taken_from l.parts l.index (room l.parts - l.index) ≡ taken_from l.parts 0 (room l.parts))
