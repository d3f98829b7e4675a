-- `fold_lanes` meets its contract: that of the engine for short strings, or of the walk, whose output nobody looks at. Assumes
-- nothing.
use mathlib.Core.Path.{sym}
use mathlib.Core.Bool.{true≢false}
use native.Mathlib.Omega.{arith}
use borrow.Author.Rules.{rules}
use Rattle.crc64_lanes.proofs.fold_lanes.Goals as goal

pub walk-requires : goal.walk-requires
walk-requires c = (search rules, omega arith, λ e. absurd (true≢false (sym e)))
