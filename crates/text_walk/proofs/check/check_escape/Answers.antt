-- `check::check_escape` meets its contract. Assumes nothing.
use Rattle.text_walk.proofs.DigitLaws.{escape_by}
use borrow.Author.Rules.{rules}
use Rattle.text_walk.proofs.check.check_escape.Goals as goal

pub returns : goal.returns
returns c = escape_by _ _ (search rules) (c.is_high.ensures (c.if-not-is_high.false)) (c.is_low.ensures (c.if-not-is_low.false))
