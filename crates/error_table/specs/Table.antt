-- The two lent tables by their words, and document 02's 18 of them in its order: 1 a width, 2 no error, 3 the first
-- bad entry; errors before attributes within a rule. Assumes nothing.
use Rattle.std.specs.Prelude.{ℕ, ◌+◌, ◌*◌, ◌-◌, ◌/◌, ◌%◌, Bool, ◌||◌, not, List, [], ◌∷◌, length, get_or}
use Rattle.words.specs.Answer.{Answer, refuse}
use Rattle.words.specs.Decide.{Line, ◌⇒◌, pick, first, ◌<?◌, ◌=?◌, ◌≠?◌}
use Rattle.error_tree.specs.Reading.{error_entry, attribute_entry}

-- The error number i: code, depth, where its text stands and how long it is

abbrev pub errors_in : List ℕ → ℕ
errors_in errors = length errors / error_entry

abbrev pub code_in : List ℕ → ℕ → ℕ
code_in errors i = get_or errors (error_entry * i) 0

abbrev pub depth_in : List ℕ → ℕ → ℕ
depth_in errors i = get_or errors (error_entry * i + 1) 0

abbrev pub text_in : List ℕ → ℕ → ℕ
text_in errors i = get_or errors (error_entry * i + 2) 0

abbrev pub text_length_in : List ℕ → ℕ → ℕ
text_length_in errors i = get_or errors (error_entry * i + 3) 0

-- The attribute number k: which error's it is, where its key and its value stand and how long they are

abbrev pub attributes_in : List ℕ → ℕ
attributes_in attributes = length attributes / attribute_entry

abbrev pub index_in : List ℕ → ℕ → ℕ
index_in attributes k = get_or attributes (attribute_entry * k) 0

abbrev pub key_in : List ℕ → ℕ → ℕ
key_in attributes k = get_or attributes (attribute_entry * k + 1) 0

abbrev pub key_length_in : List ℕ → ℕ → ℕ
key_length_in attributes k = get_or attributes (attribute_entry * k + 2) 0

abbrev pub value_in : List ℕ → ℕ → ℕ
value_in attributes k = get_or attributes (attribute_entry * k + 3) 0

abbrev pub value_length_in : List ℕ → ℕ → ℕ
value_length_in attributes k = get_or attributes (attribute_entry * k + 4) 0

-- "offset plus length, unwrapped, above the area's size"
abbrev pub outside : ℕ → ℕ → ℕ → Bool
outside size offset n = size <? (offset + n)

-- "depth runs from 1 to 16"
abbrev pub deepest : ℕ
deepest = 16

-- a depth that no pre-order gives: 1 is the first error's alone, and another's is at most one more than the one before
-- it has
unfoldable pub bad_depth : List ℕ → ℕ → Bool
bad_depth errors i =
    pick (i =? 0) (depth_in errors i ≠? 1)
    (depth_in errors i <? 2 || (deepest <? depth_in errors i || (depth_in errors (i - 1) + 1) <? depth_in errors i))

unfoldable pub bad_error : ℕ → List ℕ → ℕ → Bool
bad_error size errors i =
    0xffff_ffff <? code_in errors i || (bad_depth errors i || outside size (text_in errors i) (text_length_in errors i))

-- where there are so many errors
unfoldable pub bad_attribute : ℕ → ℕ → List ℕ → ℕ → Bool
bad_attribute size errors attributes k =
    not (index_in attributes k <? errors)
    || (outside size (key_in attributes k) (key_length_in attributes k) || outside size (value_in attributes k)
    (value_length_in attributes k))

-- the first bad entry of each table, else the number of its entries

unfoldable pub first_bad_error : ℕ → List ℕ → ℕ
first_bad_error size errors = first (bad_error size errors) (errors_in errors)

unfoldable pub first_bad_attribute : ℕ → ℕ → List ℕ → ℕ
first_bad_attribute size errors attributes = first (bad_attribute size errors attributes) (attributes_in attributes)

unfoldable pub table_order : List ℕ → List ℕ → List ℕ → List (Line Answer)
table_order area errors attributes =
    let bad_entry = first_bad_error (length area) errors in
    let badRow = first_bad_attribute (length area) (errors_in errors) attributes in
    (length errors % error_entry) ≠? 0 ⇒ refuse 18 (1 ∷ errors_in errors ∷ [])
    ∷ (length attributes % attribute_entry) ≠? 0 ⇒ refuse 18 (1 ∷ attributes_in attributes ∷ [])
    ∷ errors_in errors =? 0 ⇒ refuse 18 (2 ∷ 0 ∷ [])
    ∷ bad_entry <? errors_in errors ⇒ refuse 18 (3 ∷ bad_entry ∷ [])
    ∷ badRow <? attributes_in attributes ⇒ refuse 18 (3 ∷ badRow ∷ [])
    ∷ []
