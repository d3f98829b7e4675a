-- `plain::header_at` meets its contract. Assumes nothing.
use mathlib.Core.Path.{◌∙◌}
use Rattle.wire_read.proofs.PlainLaws.{header_lent}
use Rattle.wire_read.proofs.plain.header_at.Goals as goal

pub returns : goal.returns
returns c = c.read_header.ensures ∙ header_lent _ _
