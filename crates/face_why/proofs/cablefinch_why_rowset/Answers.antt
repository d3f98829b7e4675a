-- `cablefinch_why_rowset` meets its contract: the library's finding in words. Assumes nothing.
use Rattle.face_why.proofs.cablefinch_why_rowset.Goals as goal

pub returns : goal.returns
returns c = (c.explain.result, c.explain.ensures, c.from.ensures)
