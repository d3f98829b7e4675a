-- So many attributes were passed, and the fields from `at` on are still to come. Assumes nothing.
use Rattle.std.proofs.Common.{◌-◌}
use Rattle.error_tree.specs.Message.{dictionary_fields}
use Rattle.error_tree.specs.Reading.{check_entry}
use Rattle.error_walk.specs.Stages.{no, entry_count}
use Rattle.error_walk.proofs.WalkLaws.{Left}
use Rattle.error_walk.proofs.walk.walk_dictionary.Given as goal

abbrev pub invariant-loop-at : goal.invariant-loop-at
invariant-loop-at l =
    Left (check_entry l.input) no (entry_count l.input) dictionary_fields l.input l.start l.end l.at 0 l.attributes

abbrev pub decreases-loop-at : goal.decreases-loop-at
decreases-loop-at l = l.end - l.at
