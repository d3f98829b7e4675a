-- `crc64::fold_over` meets its contract: a turn, and the end. Assumes nothing.
use Rattle.crc64.proofs.Loop.{again, ended}
use Rattle.crc64.proofs.fold_over.Goals as goal

pub loop-byte-preserved : goal.loop-byte-preserved
loop-byte-preserved c =
    again c.args.table.now c.loop-byte.folded c.args.bytes.now c.loop-byte.byte-index c.loop-byte-test.true c.loop-byte.invariant

pub returns : goal.returns
returns c =
    ended c.args.table.now c.loop-byte.folded c.args.bytes.now c.loop-byte.byte-index c.loop-byte-test.false c.loop-byte.invariant
