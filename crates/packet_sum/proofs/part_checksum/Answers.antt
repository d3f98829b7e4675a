-- `part_checksum` meets its contract. Assumes nothing.
use mathlib.Core.Path.{ap, ◌∙◌}
use Rattle.crc64.specs.Polynomial.{checksum}
use Rattle.packet_sum.proofs.part_checksum.Goals as goal

pub returns : goal.returns
returns c = c.checksum.ensures ∙ ap checksum c.part.ensures.bytes
