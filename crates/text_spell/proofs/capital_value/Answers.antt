-- `capital_value` meets its contract. Assumes nothing.
use mathlib.Core.Path.{◌∙◌}
use Rattle.text_spell.proofs.DigitLaws.{past_capital, other_capital}
use Rattle.text_spell.proofs.capital_value.Goals as goal

pub returns-then-byte-gt70 : goal.returns-then-byte-gt70
returns-then-byte-gt70 c = past_capital _ c.if-byte-gt70.true

pub returns : goal.returns
returns c = c.digit_value.ensures ∙ other_capital _ c.if-byte-gt70.false
