-- `write_parts` meets its contract. The invariant: the words and the bytes of the parts from `index` on are still to be written.
-- Assumes nothing.
use Prim.Native.Nat.{◌-◌}
use Rattle.packet.specs.Entries.{room}
use Rattle.packet.specs.Wire.{sums, contents, parts_from, parts_of}
use Rattle.packet_write.specs.Stages.{parts_at}
use Rattle.packet_write.proofs.PartingLaws.{Parting}
use Rattle.packet_write.proofs.write_parts.Given as goal

abbrev pub invariant-loop-index : goal.invariant-loop-index
invariant-loop-index l = Parting (sums (parts_of l.area l.parts)) (contents (parts_of l.area l.parts)) (sums (parts_from l.area l.parts l.index (room l.parts - l.index))) (contents (parts_from l.area l.parts l.index (room l.parts - l.index)))
    l.initial.out l.out (parts_at l.parts) l.sum_at l.part_at
