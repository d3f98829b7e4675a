-- `cablefinch_read_value` meets its contract: the library's answer in words. Assumes nothing.
use Rattle.words.proofs.PaperLaws.{told}
use Rattle.face_rowsets.proofs.cablefinch_read_value.Goals as goal

pub returns : goal.returns
returns c = told c.read_value.ensures.0 c.outcome.ensures
