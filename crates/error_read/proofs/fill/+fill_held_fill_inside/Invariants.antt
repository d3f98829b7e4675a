-- What is still to come of an error's fields, and how the two functions go down: a level at each inner error. Assumes
-- nothing.
use Rattle.std.proofs.Common.{◌-◌, ◌+◌, ◌*◌}
use Rattle.error_read.proofs.HeldLaws.{Holding}
use Rattle.error_read.proofs.fill.+fill_held_fill_inside.Given as goal

abbrev pub decreases-fill_held : goal.decreases-fill_held
decreases-fill_held l = 2 * l.left + 1

abbrev pub decreases-fill_inside : goal.decreases-fill_inside
decreases-fill_inside l = 2 * l.left

abbrev pub invariant-fill_held-loop-at : goal.invariant-fill_held-loop-at
invariant-fill_held-loop-at l =
    Holding l.left l.depth l.index l.fn.first.next l.fn.first.row l.input l.start l.end l.fn.errors l.fn.attributes l.at
    l.filled.next l.filled.row l.errors l.attributes

abbrev pub decreases-fill_held-loop-at : goal.decreases-fill_held-loop-at
decreases-fill_held-loop-at l = l.end - l.at
