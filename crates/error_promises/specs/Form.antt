-- What a TError is on the wire, without a parser: fields that follow each other to the message's end, each of its own
-- wire type where the message knows it, each with a message of the right kind inside. Assumes nothing.
use Rattle.std.specs.Prelude.{ℕ, zero, suc, ◌≤◌, ◌≡◌, true, List, length}
use Rattle.field.specs.Field.{number_at, content_at, stop_at}
use Rattle.error_tree.specs.Message.{error_fields, dictionary_fields, attribute_fields, whole_in}
use Rattle.error_tree.specs.Tree.{levels}

-- A message of s that ends at `end`, from a place on: its end is reached, or a whole field begins there, what it holds
-- is good, and the message goes on where it stops. (A whole field stops by the end.)
pub data Message (known : ℕ) (Inside : ℕ → Type 0) (s : List ℕ) (end : ℕ) : ℕ → Type 0 where
  reached : {at : ℕ} → end ≤ at → Message known Inside s end at
  field : {at : ℕ} → whole_in known s at end ≡ true → Inside at → Message known Inside s end (stop_at s at)
      → Message known Inside s end at

-- the message that the field at `at` holds
abbrev pub Held : ℕ → (ℕ → Type 0) → List ℕ → ℕ → Type 0
Held known Inside s at = Message known Inside s (stop_at s at) (content_at s at)

abbrev pub Anything : ℕ → Type 0
Anything at = Unit {0}

-- TAttributeDictionary: 1 attributes
abbrev pub Entry : List ℕ → ℕ → Type 0
Entry s at = number_at s at ≡ 1 → Held attribute_fields Anything s at

-- TError: 3 attributes, 4 inner errors; so many levels may lie below it
unfoldable pub ErrorField : ℕ → List ℕ → ℕ → Type 0
ErrorField zero s at = (number_at s at ≡ 3 → Held dictionary_fields (Entry s) s at) × (number_at s at ≡ 4 → ⊥)
ErrorField (suc left) s at =
    (number_at s at ≡ 3 → Held dictionary_fields (Entry s) s at)
    × (number_at s at ≡ 4 → Held error_fields (ErrorField left s) s at)

-- the whole input is one
abbrev pub WellFormed : List ℕ → Type 0
WellFormed s = Message error_fields (ErrorField levels s) s (length s) 0
