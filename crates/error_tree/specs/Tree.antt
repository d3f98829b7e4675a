-- The tree of errors and attributes that the fields of a TError hold, and the lent tables as functions of that tree:
-- errors in pre-order, attributes in wire order. Assumes nothing.
use Rattle.std.specs.Prelude.{ℕ, zero, suc, ◌+◌, ◌%◌, List, [], ◌∷◌, ◌++◌, length}
use Rattle.words.specs.Decide.{pick, ◌⇒◌, decide, ◌=?◌}
use Rattle.field.specs.Field.{number_at, value_at, content_at}
use Rattle.error_tree.specs.Message.{error_fields, dictionary_fields, attribute_fields, fields, inside, latest}

-- what an error holds, in wire order
pub data Parts : Type 0 where
  none : Parts
  -- where the key and the value stand and how long they are; what follows
  attribute : (key_at keyLength value_at valueLength : ℕ) → Parts → Parts
  -- an inner error's code, and where its text stands and how long it is; what it holds; what follows
  inner : (code textAt textLength : ℕ) → Parts → Parts → Parts

-- where the bytes of the last field of this number stand, 0 where there is none; and how many they are
abbrev pub place_of : ℕ → List ℕ → List ℕ → ℕ
place_of number s fs = latest (content_at s) number s fs 0

abbrev pub length_of : ℕ → List ℕ → List ℕ → ℕ
length_of number s fs = latest (value_at s) number s fs 0

-- the low 32 bits of the last code, 0 where there is none
abbrev pub code_of : List ℕ → List ℕ → ℕ
code_of s fs = latest (value_at s) 1 s fs 0 % 0x1_0000_0000

-- the attribute of so many fields, and what follows
abbrev pub attribute_of : List ℕ → List ℕ → Parts → Parts
attribute_of s fs more = attribute (place_of 1 s fs) (length_of 1 s fs) (place_of 2 s fs) (length_of 2 s fs) more

-- the attributes of a dictionary
unfoldable pub dictionary : List ℕ → List ℕ → Parts → Parts
dictionary s [] more = more
dictionary s (at ∷ others) more =
    let rest = dictionary s others more in
    pick (number_at s at =? 1) (attribute_of s (inside attribute_fields s at) rest) rest

-- what the fields of an error hold, `deeper` being what an inner error's field does
unfoldable pub field_parts : (ℕ → Parts → Parts) → List ℕ → ℕ → Parts → Parts
field_parts deeper s at rest =
    decide (number_at s at =? 3 ⇒ dictionary s (inside dictionary_fields s at) rest ∷ number_at s at =? 4 ⇒ deeper at rest
    ∷ []) rest

unfoldable pub parts_with : (ℕ → Parts → Parts) → List ℕ → List ℕ → Parts
parts_with deeper s [] = none
parts_with deeper s (at ∷ others) = field_parts deeper s at (parts_with deeper s others)

-- the error of so many fields, which holds `held`, and what follows
abbrev pub error_of : List ℕ → List ℕ → Parts → Parts → Parts
error_of s fs held more = inner (code_of s fs) (place_of 2 s fs) (length_of 2 s fs) held more

-- the inner error in the field at `at`, where there are so many levels left for it
unfoldable pub inner_part : ℕ → List ℕ → ℕ → Parts → Parts
inner_part zero s at more = more
inner_part (suc left) s at more =
    error_of s (inside error_fields s at) (parts_with (inner_part left s) s (inside error_fields s at)) more

-- what an error of so many fields holds, with so many levels left
abbrev pub parts : ℕ → List ℕ → List ℕ → Parts
parts left s fs = parts_with (inner_part left s) s fs

-- how many levels may lie below the outermost error
abbrev pub levels : ℕ
levels = 15

-- the outermost error, which the whole input is
unfoldable pub tree : List ℕ → Parts
tree s = error_of s (fields error_fields s 0 (length s)) (parts levels s (fields error_fields s 0 (length s))) none

-- The tables

unfoldable pub error_count : Parts → ℕ
error_count none = 0
error_count (attribute k kl v vl more) = error_count more
error_count (inner code at n held more) = 1 + error_count held + error_count more

unfoldable pub attribute_count : Parts → ℕ
attribute_count none = 0
attribute_count (attribute k kl v vl more) = 1 + attribute_count more
attribute_count (inner code at n held more) = attribute_count held + attribute_count more

-- errors at this depth and those inside them: code, depth, where the text stands and how long it is
unfoldable pub error_words : ℕ → Parts → List ℕ
error_words depth none = []
error_words depth (attribute k kl v vl more) = error_words depth more
error_words depth (inner code at n held more) =
    code ∷ depth ∷ at ∷ n ∷ (error_words (depth + 1) held ++ error_words depth more)

-- attributes of the error number i and of those inside it, the first of which has the number `next`
unfoldable pub attribute_words : ℕ → ℕ → Parts → List ℕ
attribute_words i next none = []
attribute_words i next (attribute k kl v vl more) = i ∷ k ∷ kl ∷ v ∷ vl ∷ attribute_words i next more
attribute_words i next (inner code at n held more) =
    attribute_words next (next + 1) held ++ attribute_words i (next + 1 + error_count held) more
