-- The order in which a value is read, after document 01: each read that lacks bytes gives 9 with its offset and
-- shortage; after the header 14, then 12 before the blob is looked for. Assumes nothing.
use Rattle.std.specs.Prelude.{ℕ, ◌+◌, ◌&&◌, not, List, [], ◌∷◌}
use Prim.Native.String.{String}
use Rattle.words.specs.Answer.{Answer, accepted, refuse}
use Rattle.words.specs.Decide.{Line, ◌⇒◌, decide, pick, ◌<?◌}
use Rattle.words.specs.Note.{Told, ◌because◌, finds, number, one_of, answers}
use Rattle.wire.specs.Layout.{max_length, blob, known, type_at, length_at, payload_at, next_value, entry}
use Rattle.wire.specs.Need.{reads}

-- what stands behind a header, by name
abbrev pub payload_name : ℕ → String
payload_name type = pick (blob type) "blob" "word"

-- the checks of the value at `at`, each with what it tells a person
abbrev pub value_lines : List ℕ → ℕ → List (Line Told)
value_lines s at =
    reads "value-header" s at 8
    ∷ not (known (type_at s at))
    ⇒ (refuse 14 (type_at s at ∷ []) because finds "type" (at + 2) (type_at s at) (one_of "2-6,16-18"))
    ∷ (blob (type_at s at) && max_length <? length_at s at)
    ⇒ (refuse 12 (length_at s at ∷ []) because finds "length" (at + 4) (length_at s at) (number max_length))
    ∷ reads (payload_name (type_at s at)) s (at + 8) (payload_at s at)
    ∷ []

unfoldable pub value_order : List ℕ → ℕ → List (Line Answer)
value_order s at = answers (value_lines s at)

-- what reading the value at `at` answers: the next offset, and the five words of the value's entry
unfoldable pub value_reading : List ℕ → ℕ → Answer
value_reading s at = decide (value_order s at) (accepted (next_value s at) (entry s at []))
