-- The three messages of a TError, by the public error.proto and attributes.proto. A message's fields are the whole
-- fields from its start on, each beginning where the one before it ends. Assumes nothing.
use Rattle.std.specs.Prelude.{ℕ, zero, suc, ◌-◌, Bool, ◌&&◌, ◌||◌, List, [], ◌∷◌}
use Rattle.words.specs.Decide.{pick, ◌⇒◌, decide, ◌<?◌, ◌=?◌}
use Rattle.field.specs.Field.{number_at, type_at, content_at, stop_at, whole_field}

-- How many fields each message knows, numbered from 1: an error its code, text, attributes and inner errors; a
-- dictionary its attributes; an attribute its key and value

abbrev pub error_fields : ℕ
error_fields = 4

abbrev pub dictionary_fields : ℕ
dictionary_fields = 1

abbrev pub attribute_fields : ℕ
attribute_fields = 2

-- of no field that the message knows
abbrev pub any_type : ℕ
any_type = 8

-- the wire type of a field: all that are known are length-delimited, but an error's code
unfoldable pub wire_type : ℕ → ℕ → ℕ
wire_type known number = decide (known <? number ⇒ any_type ∷ (known =? error_fields && number =? 1) ⇒ 0 ∷ []) 2

-- a whole field at `at`, of its own type where the message knows it
unfoldable pub whole_in : ℕ → List ℕ → ℕ → ℕ → Bool
whole_in known s at end =
    whole_field s at end && (wire_type known (number_at s at) =? any_type || wire_type known (number_at s at) =? type_at s at)

-- the places where the fields of the message from `at` to `end` begin, n at most
unfoldable pub fields_in : ℕ → ℕ → List ℕ → ℕ → ℕ → List ℕ
fields_in zero known s at end = []
fields_in (suc n) known s at end =
    let others = at ∷ fields_in n known s (stop_at s at) end in
    pick (whole_in known s at end) others []

-- all of them: each has a byte at least
abbrev pub fields : ℕ → List ℕ → ℕ → ℕ → List ℕ
fields known s at end = fields_in (end - at) known s at end

-- the fields of the message that the field at `at` holds
abbrev pub inside : ℕ → List ℕ → ℕ → List ℕ
inside known s at = fields known s (content_at s at) (stop_at s at)

-- what f says of the last field of this number, else d
unfoldable pub latest : (ℕ → ℕ) → ℕ → List ℕ → List ℕ → ℕ → ℕ
latest f number s [] d = d
latest f number s (at ∷ others) d = latest f number s others (pick (number_at s at =? number) (f at) d)
