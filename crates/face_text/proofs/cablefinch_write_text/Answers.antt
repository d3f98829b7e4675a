-- `cablefinch_write_text` meets its contract: the library's answer in words, and its bytes. Assumes nothing.
use Rattle.words.proofs.PaperLaws.{told}
use Rattle.face_text.proofs.cablefinch_write_text.Goals as goal

pub returns : goal.returns
returns c = let e = c.write_text.ensures in (told e.0 c.outcome.ensures, e.1)
