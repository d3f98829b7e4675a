-- The refusals by their numbers: 22 BadMessage and 23 ErrorsTooDeep, each with the failing field's start; 18 BadTable;
-- 17 NoRoom. Assumes nothing.
use Rattle.std.specs.Prelude.{[], ◌∷◌}
use Rattle.words.specs.Answer.{Answer, refuse}
use Rattle.words.specs.Paper.{no_room_values}
use Rattle.error_tree.specs.declared.refusal.ErrorRefusal.{ErrorRefusal}
use Rattle.error_tree.specs.declared.refusal.ErrorRefusal.TheVariants.{BadMessage, ErrorsTooDeep, BadTable, NoRoom}

abbrev pub paper : ErrorRefusal → Answer
paper (BadMessage place) = refuse 22 (place ∷ [])
paper (ErrorsTooDeep place) = refuse 23 (place ∷ [])
paper (BadTable rule position) = refuse 18 (rule ∷ position ∷ [])
paper (NoRoom short) = refuse 17 (no_room_values short)
