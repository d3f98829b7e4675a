-- `fill::digit_value` meets its contract. Assumes nothing.
use Rattle.text_read.proofs.DigitLaws.{capital_digit}
use Rattle.text_read.proofs.fill.digit_value.Goals as goal

pub returns : goal.returns
returns c = capital_digit _ c.requires
