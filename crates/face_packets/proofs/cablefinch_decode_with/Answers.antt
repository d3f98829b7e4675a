-- `cablefinch_decode_with` meets its contract: the library's answer in words, and its table. Assumes nothing.
use Rattle.words.proofs.PaperLaws.{told}
use Rattle.face_packets.proofs.cablefinch_decode_with.Goals as goal

pub returns : goal.returns
returns c =
    let e = rw c.mode_of-mode.ensures at c.decode_with.ensures in
    (told e.answer c.outcome.ensures, e.tables)
