-- `size::cap` meets its contract.
-- Assumes nothing.
use borrow.Author.Tests.{lt-ltb, le-ltb}
use Rattle.wire_check.proofs.size.cap.Goals as goal

pub returns-then-length-gt4294967295 : goal.returns-then-length-gt4294967295
returns-then-length-gt4294967295 c = rw (lt-ltb _ _ c.if-length-gt4294967295.true)

pub returns : goal.returns
returns c = rw (le-ltb _ _ c.if-length-gt4294967295.false)
