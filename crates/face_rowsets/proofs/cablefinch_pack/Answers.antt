-- `cablefinch_pack` meets its contract: the library's answer in words, its table and the second area. Assumes nothing.
use Rattle.words.proofs.PaperLaws.{told}
use Rattle.face_rowsets.proofs.cablefinch_pack.Goals as goal

pub returns : goal.returns
returns c = let e = c.pack.ensures in (told e.0 c.outcome.ensures, e.1, e.2)
