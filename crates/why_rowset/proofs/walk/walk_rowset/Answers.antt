-- `walk::walk_rowset` meets its contract: the row count is not there, or what is behind it decides. Assumes nothing.
use Rattle.why_rowset.proofs.WalkLaws.{head_short}
use Rattle.why_rowset.proofs.walk.walk_rowset.Goals as goal

pub returns-then-there-lt-WORD_SIZE : goal.returns-then-there-lt-WORD_SIZE
returns-then-there-lt-WORD_SIZE c =
    head_short c.args.input.now c.short.result c.if-there-lt-WORD_SIZE.true c.short.ensures
