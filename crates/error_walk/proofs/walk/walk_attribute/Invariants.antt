-- The fields from `at` on are still to come. Assumes nothing.
use Rattle.std.proofs.Common.{◌-◌}
use Rattle.error_tree.specs.Message.{attribute_fields}
use Rattle.error_tree.specs.Reading.{nothing}
use Rattle.error_walk.specs.Stages.{no}
use Rattle.error_walk.proofs.WalkLaws.{Left}
use Rattle.error_walk.proofs.walk.walk_attribute.Given as goal

abbrev pub invariant-loop-at : goal.invariant-loop-at
invariant-loop-at l = Left nothing no no attribute_fields l.input l.start l.end l.at 0 0

abbrev pub decreases-loop-at : goal.decreases-loop-at
decreases-loop-at l = l.end - l.at
