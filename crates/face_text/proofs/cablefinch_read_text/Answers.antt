-- `cablefinch_read_text` meets its contract: the library's answer in words, its tables and its area. Assumes nothing.
use Rattle.words.proofs.PaperLaws.{told}
use Rattle.face_text.proofs.cablefinch_read_text.Goals as goal

pub returns : goal.returns
returns c =
    let e = c.read_text.ensures in
    (told e.means c.walked_outcome.ensures, e.rows_hold, e.values_hold, e.area_holds)
