-- `text::put_finding` meets its contract, case by case. Assumes nothing.
use Rattle.why_text.specs.Text.{line_of}
use Rattle.why_text.proofs.text.put_finding.Goals as goal

pub returns-in-Fine : goal.returns-in-Fine
unfolding line_of
returns-in-Fine c = rw c.in-Fine.is c.put_bytes.ensures

pub returns-in-More : goal.returns-in-More
returns-in-More c = rw c.in-More.is c.put_more.ensures

pub returns-in-Refused : goal.returns-in-Refused
returns-in-Refused c = rw c.in-Refused.is c.put_refused.ensures

pub returns-in-NotPlain : goal.returns-in-NotPlain
returns-in-NotPlain c = rw c.in-NotPlain.is c.put_not_plain.ensures
