-- The first k bytes have left. Assumes nothing.
use Rattle.std.proofs.Common.{◌≡◌, ◌+◌, length, take, drop}
use Rattle.crc64_sparse.specs.Stages.{filled}
use Rattle.crc64_long.proofs.leave.Given as goal

abbrev pub invariant-loop-k : goal.invariant-loop-k
invariant-loop-k l =
    (length l.window ≡ 5952) × (take (1856 + l.k) l.window ≡ filled l.k (take 1856 l.initial.window) (drop l.at l.bytes))
