-- `size::outcome` meets its contract. Assumes nothing.
use Rattle.wire.proofs.PaperLaws.{case}
use Rattle.wire_check.specs.Paper.{paper_measured}
use Rattle.wire_check.proofs.size.outcome.Goals as goal

pub returns-in-Ok : goal.returns-in-Ok
returns-in-Ok c = case paper_measured c.in-Ok.is c.taken.ensures
