-- `crc64_eight::looked_up` meets its contract: its sum is the definition's, written out. Assumes nothing.
use mathlib.Core.Path.{refl}
use Rattle.crc64_eight.specs.Lent.{looked}
use Rattle.crc64_eight.proofs.looked_up.Goals as goal

pub returns : goal.returns
unfolding looked
returns c = refl
