-- `write_sizes` meets its contract. The invariant: the words of the entries from `index` on are still to be written.
-- Assumes nothing.
use Prim.Native.Nat.{◌*◌, ◌-◌}
use Rattle.packet.specs.Entries.{room}
use Rattle.packet_write.specs.Stages.{entry_sizes}
use Rattle.words.specs.Stages.{Filling}
use Rattle.packet_write.proofs.write_sizes.Given as goal

abbrev pub invariant-loop-index : goal.invariant-loop-index
invariant-loop-index l = Filling (entry_sizes l.parts 0 (room l.parts)) (entry_sizes l.parts l.index (room l.parts - l.index)) l.initial.out l.out (4 * l.index)
