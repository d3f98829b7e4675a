-- What the private stages of the first walk promise, one to the next. Nothing here needs to be believed. Assumes
-- nothing.
use Rattle.std.specs.Prelude.{ℕ, ◌+◌, ◌-◌, ◌≤◌, ◌≡◌, List, [], ◌∷◌, Some, None, Result, Ok, Err}
use Rattle.words.specs.Answer.{Answer}
use Rattle.words.specs.Decide.{pick, ◌=?◌}
use Rattle.field.specs.Field.{number_at, stop_at}
use Rattle.error_tree.specs.Message.{fields, error_fields, dictionary_fields, attribute_fields}
use Rattle.error_tree.specs.Tree.{none, field_parts, inner_part, error_count, attribute_count}
use Rattle.error_tree.specs.Reading.{check_message, nothing, check_entry, check_field, check_inner}
use Rattle.error_tree.specs.Paper.{paper}
use Rattle.error_tree.specs.Statement.{ReadsKnown}
use Rattle.error_tree.specs.declared.refusal.ErrorRefusal.{ErrorRefusal}
use Rattle.error_tree.specs.declared.refusal.ErrorRefusal.TheVariants.{BadMessage}
use Rattle.error_walk.specs.declared.walk.Counted.{Counted}
use Rattle.field.specs.declared.field.Field.{Field}

-- the field at `at` of a message that knows so many; or that none is whole there
abbrev pub NextField : ℕ → List ℕ → ℕ → ℕ → Result Field ErrorRefusal → Type 0
NextField known s at end (Ok f) = ReadsKnown known s at end (Some f)
NextField known s at end (Err refusal) = (refusal ≡ BadMessage at) × ReadsKnown known s at end None

-- Where none of a stage's checks holds, what follows decides, and so many errors and attributes were passed, at most
-- one for each of so many bytes; else the refusal, whatever follows.
abbrev pub Walk : (Answer → Answer) → ℕ → ℕ → ℕ → Result Counted ErrorRefusal → Type 0
Walk checks errors attributes bytes (Ok c) =
    (c.errors ≡ errors) × (c.attributes ≡ attributes) × (c.errors + c.attributes ≤ bytes)
    × ((rest : Answer) → checks rest ≡ rest)
Walk checks errors attributes bytes (Err refusal) = (rest : Answer) → checks rest ≡ paper refusal

-- so much for each field
unfoldable pub sum_of : (ℕ → ℕ) → List ℕ → ℕ
sum_of f [] = 0
sum_of f (at ∷ others) = f at + sum_of f others

-- the message from `at` to `end`: the checks of each field's inside, and how many errors and attributes are in it
abbrev pub WalksMessage : (ℕ → Answer → Answer) → (ℕ → ℕ) → (ℕ → ℕ) → ℕ → List ℕ → ℕ → ℕ
    → Result Counted ErrorRefusal → Type 0
WalksMessage each errors attributes known s at end r =
    Walk (check_message each known s at end) (sum_of errors (fields known s at end))
    (sum_of attributes (fields known s at end)) (end - at) r

abbrev pub WalksField : (ℕ → Answer → Answer) → (ℕ → ℕ) → (ℕ → ℕ) → List ℕ → ℕ → Result Counted ErrorRefusal → Type 0
WalksField each errors attributes s at r = Walk (each at) (errors at) (attributes at) (stop_at s at - at) r

abbrev pub no : ℕ → ℕ
no at = 0

abbrev pub WalksAttribute : List ℕ → ℕ → ℕ → Result Counted ErrorRefusal → Type 0
WalksAttribute s at end r = WalksMessage nothing no no attribute_fields s at end r

-- how many attributes a field of a dictionary has
abbrev pub entry_count : List ℕ → ℕ → ℕ
entry_count s at = pick (number_at s at =? 1) 1 0

abbrev pub WalksEntry : List ℕ → ℕ → Result Counted ErrorRefusal → Type 0
WalksEntry s at r = WalksField (check_entry s) no (entry_count s) s at r

abbrev pub WalksDictionary : List ℕ → ℕ → ℕ → Result Counted ErrorRefusal → Type 0
WalksDictionary s at end r = WalksMessage (check_entry s) no (entry_count s) dictionary_fields s at end r

-- how many errors and attributes a field of an error has
abbrev pub inner_errors : ℕ → List ℕ → ℕ → ℕ
inner_errors left s at = error_count (field_parts (inner_part left s) s at none)

abbrev pub inner_attributes : ℕ → List ℕ → ℕ → ℕ
inner_attributes left s at = attribute_count (field_parts (inner_part left s) s at none)

abbrev pub WalksInside : ℕ → List ℕ → ℕ → Result Counted ErrorRefusal → Type 0
WalksInside left s at r =
    WalksField (check_field (check_inner left s) s) (inner_errors left s) (inner_attributes left s) s at r

abbrev pub WalksError : ℕ → List ℕ → ℕ → ℕ → Result Counted ErrorRefusal → Type 0
WalksError left s at end r =
    WalksMessage (check_field (check_inner left s) s) (inner_errors left s) (inner_attributes left s) error_fields s at end r
