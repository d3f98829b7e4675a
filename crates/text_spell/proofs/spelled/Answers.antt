-- `spelled` meets its contract. Assumes nothing.
use Rattle.text_spell.proofs.DigitLaws.{spells}
use Rattle.text_spell.proofs.spelled.Goals as goal

pub returns : goal.returns
returns c = spells _ c.requires
