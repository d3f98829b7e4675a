-- `check::check_null` meets its contract. Assumes nothing.
use Rattle.text_walk.proofs.CheckLaws.{null_early, null_other, null_whole}
use Rattle.text_walk.proofs.check.check_null.Goals as goal

pub returns-then-text-at : goal.returns-then-text-at
returns-then-text-at c = null_early _ _ _ c.if-text-at.true

pub returns-then-text-at-ne10 : goal.returns-then-text-at-ne10
returns-then-text-at-ne10 c = null_other _ _ _ c.if-text-at.false c.if-text-at-ne10.true

pub returns : goal.returns
returns c = null_whole _ _ _ c.if-text-at.false c.if-text-at-ne10.false
