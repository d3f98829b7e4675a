-- `crc64_long::leave` meets its contract: a byte more has left. Assumes nothing.
use Rattle.std.proofs.Common.{◌+◌, ◌∙◌, arith, take, drop, length-set}
use Rattle.crc64_long.proofs.Kept.{stored, start, keep_one}
use Rattle.crc64_long.proofs.leave.Goals as goal

pub loop-k-init : goal.loop-k-init
loop-k-init c = (c.requires.0, start (take 1856 c.args.window.now) (drop c.args.at c.args.bytes.now))

pub loop-k-preserved : goal.loop-k-preserved
loop-k-preserved c =
    let first = c.args in
    let at = c.loop-k in
    (length-set at.window (1856 + at.k) (stored at.window first.bytes.now first.at at.k) ∙ at.invariant.0, keep_one at.window (take 1856 first.window.now) first.bytes.now first.at at.k (omega arith) at.invariant.1)
