-- The words of the fields passed stand in the table, those of the fields from `at` on go behind. Assumes nothing.
use Rattle.std.proofs.Common.{◌-◌, ◌≤◌}
use Rattle.error_tree.specs.Message.{fields, dictionary_fields}
use Rattle.error_read.specs.Stages.{dictionary_words}
use Rattle.error_read.proofs.FillLaws.{Storing}
use Rattle.error_read.proofs.fill.fill_dictionary.Given as goal

abbrev pub invariant-loop-at : goal.invariant-loop-at
invariant-loop-at l =
    (l.at ≤ l.end)
    × Storing l.fn.attributes l.attributes l.first l.k
    (dictionary_words l.index l.input (fields dictionary_fields l.input l.start l.end))
    (dictionary_words l.index l.input (fields dictionary_fields l.input l.at l.end))

abbrev pub decreases-loop-at : goal.decreases-loop-at
decreases-loop-at l = l.end - l.at
