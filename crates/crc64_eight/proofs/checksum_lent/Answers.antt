-- `crc64_eight::checksum_lent` meets its contract. Assumes nothing.
use mathlib.Core.Path.{ap, ◌∙◌}
use Rattle.crc64.specs.Table.{swapped}
use Rattle.crc64_eight.proofs.checksum_lent.Goals as goal

pub returns : goal.returns
returns c = c.swap_bytes.ensures ∙ ap (swapped 8) c.fold_lent.ensures
