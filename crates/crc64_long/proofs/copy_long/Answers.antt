-- `crc64_long::copy_long` meets its contract: that of the engine for short strings, or of the walk. Assumes nothing.
use mathlib.Core.Path.{refl}
use Rattle.crc64_long.proofs.copy_long.Goals as goal

pub returns : goal.returns
returns c =
    let done = c.walk.ensures in
    record { folded = done.0; copied = done.1 refl }
