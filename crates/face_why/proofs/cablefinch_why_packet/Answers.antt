-- `cablefinch_why_packet` meets its contract: the library's finding in words. Assumes nothing.
use Rattle.face_why.proofs.cablefinch_why_packet.Goals as goal

pub returns : goal.returns
returns c = (c.explain-told.result, rw c.mode_of-mode.ensures at c.explain-told.ensures, c.from.ensures)
