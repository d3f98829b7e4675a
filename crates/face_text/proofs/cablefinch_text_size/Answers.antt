-- `cablefinch_text_size` meets its contract: the library's answer in words. Assumes nothing.
use Rattle.words.proofs.PaperLaws.{told}
use Rattle.face_text.proofs.cablefinch_text_size.Goals as goal

pub returns : goal.returns
returns c = told c.text_size.ensures.sizes_text c.outcome.ensures
