-- `lines`'s loop: the lines written so far, and those still to come, are the input's. Assumes nothing.
use mathlib.Core.Path.{◌≡◌}
use Prim.Native.Nat.{◌-◌}
use lib.ListN.{length}
use Rattle.listing.proofs.WalkLaws.{Listing}
use Rattle.listing.proofs.lines.Given as goal

abbrev pub invariant-loop-end : goal.invariant-loop-end
invariant-loop-end l = (length l.parts ≡ length l.initial.parts) × (length l.out ≡ length l.initial.out) × Listing l.input l.initial.out l.out l.offset l.at

abbrev pub decreases-loop-end : goal.decreases-loop-end
decreases-loop-end l = length l.input - l.offset
