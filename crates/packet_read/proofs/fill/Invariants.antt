-- `fill` meets its contract. The invariant: the next part begins at `at`, and the entries of those before it stand over
-- the table's front. Assumes nothing.
use mathlib.Core.Path.{◌≡◌}
use Rattle.words.specs.Buffer.{over}
use Rattle.packet.specs.Layout.{start}
use Rattle.packet.specs.Entries.{entries_from}
use Rattle.packet_read.proofs.fill.Given as goal

abbrev pub invariant-loop-index : goal.invariant-loop-index
invariant-loop-index l = (l.at ≡ start l.input l.count l.index) × (l.parts ≡ over (entries_from l.input l.count 0 l.index) l.initial.parts)
