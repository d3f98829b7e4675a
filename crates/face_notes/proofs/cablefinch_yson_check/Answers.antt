-- The library's answer in words. Assumes nothing.
use Rattle.words.proofs.PaperLaws.{told}
use Rattle.face_notes.proofs.cablefinch_yson_check.Goals as goal

pub returns : goal.returns
returns c = let e = c.check.ensures in (e.0, told e.1 c.listed_outcome.ensures)
