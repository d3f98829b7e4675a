-- `first_too_large` meets its contract. The invariant: what is found from `index` on is what is found from the front.
-- Assumes nothing.
use mathlib.Core.Path.{◌≡◌}
use Prim.Native.Nat.{◌-◌}
use Rattle.words.specs.Decide.{first, first_from}
use Rattle.packet.specs.Entries.{room}
use Rattle.packet.specs.Entries.{too_large_at}
use Rattle.packet_check.proofs.first_too_large.Given as goal

abbrev pub invariant-loop-index : goal.invariant-loop-index
invariant-loop-index l = first_from (too_large_at l.parts) l.index (room l.parts - l.index) ≡ first (too_large_at l.parts) (room l.parts)
