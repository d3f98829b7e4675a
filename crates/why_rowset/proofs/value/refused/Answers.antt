-- `value::refused` meets its contract: the number is the refusal's. Assumes nothing.
use mathlib.Core.Path.{ap}
use Rattle.words.specs.declared.outcome.Outcome.{Outcome}
use Rattle.finding.specs.Saying.{refusing}
use Rattle.finding.specs.Meaning.{name_of, wanted_of}
use Rattle.why_rowset.proofs.value.refused.Goals as goal

pub returns : goal.returns
returns c =
    ap (λ (o : Outcome). refusing o.number (name_of c.args.field) c.args.offset c.args.found (wanted_of c.args.wanted)) c.from-told.ensures
