-- `value::check_bytes` meets its contract: the bytes are not there, or they are. Assumes nothing.
use Rattle.why_rowset.proofs.ValueLaws.{payload_short, payload_passes}
use Rattle.why_rowset.proofs.value.check_bytes.Goals as goal

pub returns-then-there-size : goal.returns-then-there-size
returns-then-there-size c =
    payload_short c.args.input.now c.args.at c.args.header c.requires.1 c.requires.0 c.args.field c.args.size c.requires.2 c.requires.3 c.short.result c.if-there-size.true c.short.ensures

pub returns : goal.returns
returns c =
    payload_passes c.args.input.now c.args.at c.args.header c.requires.1 c.requires.0 c.args.field c.args.size c.requires.2 c.requires.3 c.if-there-size.false
