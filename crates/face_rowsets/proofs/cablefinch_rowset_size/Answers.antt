-- `cablefinch_rowset_size` meets its contract: the library's answer in words. Assumes nothing.
use Rattle.words.proofs.PaperLaws.{told}
use Rattle.face_rowsets.proofs.cablefinch_rowset_size.Goals as goal

pub returns : goal.returns
returns c = told c.encoded_size.ensures.measures c.outcome.ensures
