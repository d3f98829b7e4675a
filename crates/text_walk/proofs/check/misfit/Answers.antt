-- `check::misfit` meets its contract. Assumes nothing.
use mathlib.Core.Path.{refl}
use Rattle.text_walk.proofs.DigitLaws.{no_misfit}
use Rattle.text_walk.proofs.check.misfit.Goals as goal

pub returns : goal.returns
returns c = λ e. no_misfit _ _ refl e
