-- `write::header` meets its contract: four fields, one above the other.
-- Assumes nothing.
use Rattle.wire_write.proofs.BytesLaws.{header_word}
use Rattle.wire_write.proofs.write.header.Goals as goal

pub returns : goal.returns
returns c = header_word c.args.id c.args.kind c.args.aggregate c.args.length
