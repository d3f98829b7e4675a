-- `value::check` meets its contract: the header is not there, or the checks after it decide. Assumes nothing.
use Rattle.why_rowset.proofs.ValueLaws.{header_short}
use Rattle.why_rowset.proofs.value.check.Goals as goal

pub returns-then-there-lt-WORD_SIZE : goal.returns-then-there-lt-WORD_SIZE
returns-then-there-lt-WORD_SIZE c =
    header_short c.args.input.now c.args.at c.short.result c.if-there-lt-WORD_SIZE.true c.short.ensures
