-- Which attributes an error has: those of all dictionaries among its fields, in wire order. Document 02, A10:
-- "repeated dictionaries add up". Assumes nothing.
use Rattle.std.specs.Prelude.{ℕ, zero, suc, ◌<◌, ◌≡◌, List, [], ◌∷◌, ◌++◌, length, get_or, Ok}
use Rattle.words.specs.Buffer.{stretch}
use Rattle.words.specs.Decide.{pick, ◌=?◌}
use Rattle.field.specs.Field.{number_at}
use Rattle.error_tree.specs.Message.{error_fields, dictionary_fields, attribute_fields, fields, inside}
use Rattle.error_tree.specs.Tree.{levels, place_of, length_of}
use Rattle.error_read.specs.Statement.{Decodes}
use Rattle.error_walk.specs.declared.walk.Counted.{Counted}
use Rattle.error_promises.specs.Round.{Row, row, rows_over, of_error}

-- the attribute of so many fields, as one of the error number i
abbrev pub row_of : ℕ → List ℕ → List ℕ → Row
row_of i s fs =
    row i (length_of 1 s fs) (stretch s (place_of 1 s fs) (length_of 1 s fs)) (length_of 2 s fs)
    (stretch s (place_of 2 s fs) (length_of 2 s fs))

-- those of a dictionary of so many fields
unfoldable pub entries_of : ℕ → List ℕ → List ℕ → List Row
entries_of i s [] = []
entries_of i s (at ∷ others) =
    let rest = entries_of i s others in
    pick (number_at s at =? 1) (row_of i s (inside attribute_fields s at) ∷ rest) rest

-- those of all dictionaries among the fields of an error
unfoldable pub dictionaries_of : ℕ → List ℕ → List ℕ → List Row
dictionaries_of i s [] = []
dictionaries_of i s (at ∷ others) =
    let rest = dictionaries_of i s others in
    pick (number_at s at =? 3) (entries_of i s (inside dictionary_fields s at) ++ rest) rest

-- The errors in pre-order, each by the places where its fields begin

unfoldable pub messages_with : (ℕ → List (List ℕ)) → List ℕ → List ℕ → List (List ℕ)
messages_with deeper s [] = []
messages_with deeper s (at ∷ others) =
    let rest = messages_with deeper s others in
    pick (number_at s at =? 4) (deeper at ++ rest) rest

-- the inner error in the field at `at` and those inside it, where there are so many levels left for it
unfoldable pub messages_in : ℕ → List ℕ → ℕ → List (List ℕ)
messages_in zero s at = []
messages_in (suc left) s at =
    inside error_fields s at ∷ messages_with (messages_in left s) s (inside error_fields s at)

unfoldable pub messages : List ℕ → List (List ℕ)
messages s =
    fields error_fields s 0 (length s) ∷ messages_with (messages_in levels s) s (fields error_fields s 0 (length s))

-- the rows of each error that was read are the attributes of all its dictionaries
abbrev pub DictionariesAddUp : Type 0
DictionariesAddUp =
    (s table rows table' rows' : List ℕ) (c : Counted) → Decodes s table rows (Ok c) table' rows'
    → (c.errors ≡ length (messages s))
    × ((i : ℕ) → i < c.errors
    → of_error i (rows_over s rows' c.attributes) ≡ dictionaries_of i s (get_or (messages s) i []))
