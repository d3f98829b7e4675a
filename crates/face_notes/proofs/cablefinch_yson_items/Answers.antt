-- The library's answer in words, and the items' words. Assumes nothing.
use Rattle.words.proofs.PaperLaws.{told}
use Rattle.face_notes.proofs.cablefinch_yson_items.Goals as goal

pub returns : goal.returns
returns c = let e = c.items.ensures in (e.0, told e.1 c.listed_outcome.ensures, e.2)
