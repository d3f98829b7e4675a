-- `first_outside` meets its contract. The invariant: what is found from `index` on is what is found from the front.
-- Assumes nothing.
use mathlib.Core.Path.{◌≡◌}
use mathlib.Core.Bool.{Bool}
use mathlib.Core.List.{List}
use Prim.Native.Nat.{ℕ, ◌-◌}
use Rattle.words.specs.Decide.{first, first_from}
use Rattle.packet.specs.Entries.{room}
use Rattle.packet.specs.Entries.{is_outside, offset_at, size_at}
use Rattle.packet_check.proofs.first_outside.Given as goal

abbrev test : ℕ → List ℕ → ℕ → Bool
test given parts i = is_outside given (offset_at parts i) (size_at parts i)

abbrev pub invariant-loop-index : goal.invariant-loop-index
invariant-loop-index l = first_from (test l.given l.parts) l.index (room l.parts - l.index) ≡ first (test l.given l.parts) (room l.parts)
