-- `unit_size` meets its contract. Assumes nothing.
use mathlib.Core.Path.{sym, ◌∙◌}
use Rattle.text_size.proofs.SizeLaws.{unit_escaped, unit_plain}
use Rattle.text_size.proofs.unit_size.Goals as goal

pub returns-then-is_escaped : goal.returns-then-is_escaped
returns-then-is_escaped c = sym (unit_escaped _ (sym c.is_escaped.ensures ∙ c.if-is_escaped.true))

pub returns-else-is_escaped : goal.returns-else-is_escaped
returns-else-is_escaped c = sym (unit_plain _ (sym c.is_escaped.ensures ∙ c.if-is_escaped.false))
