-- After l words the queue is the array from l on and then its first l, it stands for what the whole array stood for, and
-- where the bytes are copied these words are. Assumes nothing.
use Rattle.std.proofs.Common.{◌≡◌, ◌+◌, ◌*◌, List, ℕ, length, drop}
use Rattle.words.specs.Stages.{Filling}
use Rattle.crc64_lanes.specs.Stages.{waits}
use Rattle.crc64_lanes.proofs.Braid.{queue}
use Rattle.crc64_lanes.proofs.block.Given as goal

abbrev pub invariant-loop-l : goal.invariant-loop-l
invariant-loop-l l =
    (length l.lanes ≡ 4)
    × (waits (queue l.l l.lanes) (drop (l.i + 8 * l.l) l.bytes) ≡ waits l.initial.lanes (drop l.i l.bytes))
    × (length l.out ≡ length l.initial.out)
    × (l.at ≡ l.i → (before : List ℕ)
    → Filling l.bytes (drop l.i l.bytes) before l.initial.out l.i
    → Filling l.bytes (drop (l.i + 8 * l.l) l.bytes) before l.out (l.i + 8 * l.l))
