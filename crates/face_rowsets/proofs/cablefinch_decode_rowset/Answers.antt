-- `cablefinch_decode_rowset` meets its contract: the library's answer in words, and its tables. Assumes nothing.
use Rattle.words.proofs.PaperLaws.{told}
use Rattle.face_rowsets.proofs.cablefinch_decode_rowset.Goals as goal

pub returns : goal.returns
returns c = let e = c.decode_rowset.ensures in (told e.0 c.decoded_outcome.ensures, e.1, e.2)
