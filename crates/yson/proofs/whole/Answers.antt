-- The input is a node with nothing behind it, or where it fails. Assumes nothing.
use Rattle.yson.proofs.ReadLaws.{whole_read, whole_left}
use Rattle.yson.proofs.whole.Goals as goal

pub returns-then-read-s : goal.returns-then-read-s
returns-then-read-s c = whole_read _ _ c.in_ok-read.ensures c.if-read-s.true

pub returns-else-read-s : goal.returns-else-read-s
returns-else-read-s c = whole_left _ _ c.in_ok-read.ensures c.if-read-s.false
