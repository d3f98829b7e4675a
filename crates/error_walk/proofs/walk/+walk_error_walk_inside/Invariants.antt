-- What has been counted of an error, and how the two functions go down: a level at each inner error. Assumes nothing.
use Rattle.std.proofs.Common.{◌-◌, ◌+◌, ◌*◌}
use Rattle.error_tree.specs.Message.{error_fields}
use Rattle.error_tree.specs.Reading.{check_field, check_inner}
use Rattle.error_walk.specs.Stages.{inner_errors, inner_attributes}
use Rattle.error_walk.proofs.WalkLaws.{Left}
use Rattle.error_walk.proofs.walk.+walk_error_walk_inside.Given as goal

abbrev pub decreases-walk_error : goal.decreases-walk_error
decreases-walk_error l = 2 * l.left + 1

abbrev pub decreases-walk_inside : goal.decreases-walk_inside
decreases-walk_inside l = 2 * l.left

abbrev pub invariant-walk_error-loop-at : goal.invariant-walk_error-loop-at
invariant-walk_error-loop-at l =
    Left (check_field (check_inner l.left l.input) l.input) (inner_errors l.left l.input) (inner_attributes l.left l.input)
    error_fields l.input l.start l.end l.at l.errors l.attributes

abbrev pub decreases-walk_error-loop-at : goal.decreases-walk_error-loop-at
decreases-walk_error-loop-at l = l.end - l.at
