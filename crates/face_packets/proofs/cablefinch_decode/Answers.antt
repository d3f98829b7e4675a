-- `cablefinch_decode` meets its contract: the library's answer in words, and its table. Assumes nothing.
use Rattle.words.proofs.PaperLaws.{told}
use Rattle.face_packets.proofs.cablefinch_decode.Goals as goal

pub returns : goal.returns
returns c =
    let e = rw c.mode_of-mode.ensures at c.decode.ensures in
    (told e.answer c.outcome.ensures, e.tables)
