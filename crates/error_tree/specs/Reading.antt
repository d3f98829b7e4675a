-- The order in which a TError is checked: front to back, each field finished, with all inside it, before the next
-- begins. 22 where no whole field stands before the message's end, 23 where an inner error would be the 17th level.
-- Each stage is given what follows where none of its checks holds. Assumes nothing.
use Rattle.std.specs.Prelude.{ℕ, zero, suc, ◌/◌, List, [], ◌∷◌, length}
use Rattle.words.specs.Answer.{Answer, accepted, refuse}
use Rattle.words.specs.Decide.{pick, Line, ◌⇒◌, decide, ◌<?◌, ◌=?◌}
use Rattle.words.specs.Paper.{room_line}
use Rattle.words.specs.declared.outcome.Room.TheVariants.{Errors, Attributes}
use Rattle.field.specs.Field.{number_at, content_at, stop_at}
use Rattle.error_tree.specs.Message.{error_fields, dictionary_fields, attribute_fields, fields}
use Rattle.error_tree.specs.Tree.{levels, tree, error_count, attribute_count}

-- the fields fs of a message that goes from `at` to `end`, `each` being the checks of what a field holds
unfoldable pub check_fields : (ℕ → Answer → Answer) → List ℕ → ℕ → ℕ → List ℕ → Answer → Answer
check_fields each s end at [] rest = decide (at <? end ⇒ refuse 22 (at ∷ []) ∷ []) rest
check_fields each s end at (f ∷ fs) rest =
    let others = check_fields each s end (stop_at s f) fs rest in
    each f others

abbrev pub check_message : (ℕ → Answer → Answer) → ℕ → List ℕ → ℕ → ℕ → Answer → Answer
check_message each known s at end rest = check_fields each s end at (fields known s at end) rest

abbrev pub nothing : ℕ → Answer → Answer
nothing at rest = rest

-- a field of a dictionary
unfoldable pub check_entry : List ℕ → ℕ → Answer → Answer
check_entry s at rest =
    let attribute = check_message nothing attribute_fields s (content_at s at) (stop_at s at) rest in
    pick (number_at s at =? 1) attribute rest

-- a field of an error, `deeper` being the checks of an inner error
unfoldable pub check_field : (ℕ → Answer → Answer) → List ℕ → ℕ → Answer → Answer
check_field deeper s at rest =
    let dictionary = check_message (check_entry s) dictionary_fields s (content_at s at) (stop_at s at) rest in
    let error = deeper at rest in
    decide (number_at s at =? 3 ⇒ dictionary ∷ number_at s at =? 4 ⇒ error ∷ []) rest

-- the inner error in the field at `at`, where there are so many levels left for it
unfoldable pub check_inner : ℕ → List ℕ → ℕ → Answer → Answer
check_inner zero s at rest = refuse 23 (at ∷ [])
check_inner (suc left) s at rest =
    check_message (check_field (check_inner left s) s) error_fields s (content_at s at) (stop_at s at) rest

abbrev pub check_error : ℕ → List ℕ → ℕ → ℕ → Answer → Answer
check_error left s at end rest = check_message (check_field (check_inner left s) s) error_fields s at end rest

-- the words of an entry: code, depth, text's place and length; error, key's place and length, value's place and length
abbrev pub error_entry : ℕ
error_entry = 4

abbrev pub attribute_entry : ℕ
attribute_entry = 5

-- the room in the lent tables, in whole entries
unfoldable pub room_order : List ℕ → ℕ → ℕ → List (Line Answer)
room_order s errors attributes =
    room_line Errors (error_count (tree s)) errors
    ∷ room_line Attributes (attribute_count (tree s)) attributes
    ∷ []

-- what reading s into tables of so many words answers: how many errors and attributes there are
unfoldable pub reading : List ℕ → ℕ → ℕ → Answer
reading s errors attributes =
    let counts = accepted 0 (error_count (tree s) ∷ attribute_count (tree s) ∷ []) in
    let room = decide (room_order s (errors / error_entry) (attributes / attribute_entry)) counts in
    check_error levels s 0 (length s) room
