-- `walked_outcome` meets its contract. Assumes nothing.
use Rattle.wire.proofs.PaperLaws.{case}
use Rattle.text_walk.specs.Paper.{walked_paper}
use Rattle.face_text.proofs.walked_outcome.Goals as goal

pub returns-in-Ok : goal.returns-in-Ok
returns-in-Ok c = case walked_paper c.in-Ok.is c.taken.ensures
