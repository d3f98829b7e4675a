-- The first k bytes are paid. Assumes nothing.
use Rattle.std.proofs.Common.{drop, take}
use Rattle.crc64_sparse.specs.Stages.{xor_front}
use Rattle.crc64_long.proofs.Kept.{Over}
use Rattle.crc64_long.proofs.pay.Given as goal

abbrev pub invariant-loop-k : goal.invariant-loop-k
invariant-loop-k l = Over l.k l.tail (xor_front (drop l.place (take 1856 l.window)) l.initial.tail) l.initial.tail
