-- `crc64_long::fold_long` meets its contract: that of the engine for short strings, or of the walk, whose output nobody looks at.
-- Assumes nothing.
use mathlib.Core.Path.{sym}
use mathlib.Core.Bool.{true≢false}
use native.Mathlib.Omega.{arith}
use Rattle.crc64_long.proofs.fold_long.Goals as goal

pub walk-requires : goal.walk-requires
walk-requires c = (omega arith, λ e. absurd (true≢false (sym e)))
