-- `plain::kept` meets its contract: what was kept stays. Assumes nothing.
use Rattle.why_rowset.proofs.plain.kept.Goals as goal

pub returns-in-Fine : goal.returns-in-Fine
returns-in-Fine c = (λ rest. rw c.in-Fine.is (c.value.ensures rest))
