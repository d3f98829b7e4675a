-- `crc64::table` meets its contract: the rule of all 256 entries is one computed test. Assumes nothing.
use mathlib.Core.Path.{refl}
use Rattle.crc64.specs.Polynomial.{step, steps}
use Rattle.crc64.specs.Table.{swapped, entry, entries_from, entries}
use Rattle.crc64.proofs.table.Goals as goal

pub returns : goal.returns
unfolding step steps swapped entry entries_from entries
returns c = refl
