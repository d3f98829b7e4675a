-- `explain` meets its contract: what a check found, or else what broke the plain form first. Assumes nothing.
use Rattle.why_rowset.proofs.WalkLaws.{explain_found, explain_plain}
use Rattle.why_rowset.proofs.explain.Goals as goal

pub returns-in-Err : goal.returns-in-Err
returns-in-Err c =
    explain_found c.args.input.now _ c.walk_rowset.ensures _ c.in-Err.is

pub returns-in-Ok : goal.returns-in-Ok
returns-in-Ok c =
    explain_plain c.args.input.now _ c.walk_rowset.ensures c.in-Ok.walked.next c.in-Ok.walked.plain c.in-Ok.is
