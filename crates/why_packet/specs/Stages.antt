-- What the private stages hand on: nobody has to believe it. What is told, by what the reader answers. Assumes nothing.
use Rattle.std.specs.Prelude.{ℕ, min, true, false, ◌||◌, ◌≡◌, List, [], ◌∷◌, length, get_or}
use Prim.Native.String.{String}
use Rattle.words.specs.Answer.{Answer, accepted, more, refused, refuse}
use Rattle.words.specs.Decide.{pick, ◌⇒◌, ◌<?◌, ◌=?◌, decide}
use Rattle.words.specs.Note.{number, one_of, answers}
use Rattle.packet.specs.Layout.{packet_signature, largest_part, most_parts, last_type, type_at, count_at, fixed_fields_size, fixed_header_size, size_place, sum_place, variable_sum_place, headers, whole, fields, count}
use Rattle.packet.specs.declared.Mode.{Mode}
use Rattle.packet_read.specs.Reading.{Limits, limited, order}
use Rattle.finding.specs.Saying.{Saying, fine, waiting, refusing}

-- which length passes a bound
abbrev pub length_name : ℕ → ℕ → String
length_name n bound = pick (bound <? headers n) "headers" "whole"

-- what a refusal tells by its number and values
unfoldable pub refusal_tells : ℕ → ℕ → ℕ → List ℕ → Saying
refusal_tells n ceiling code values =
    decide
    (code =? 1 ⇒ refusing code "signature" 0 (get_or values 0 0) (number packet_signature)
    ∷ code =? 2 ⇒ refusing code "type" type_at (get_or values 0 0) (number last_type)
    ∷ code =? 24 ⇒ refusing code "type" type_at (get_or values 0 0) (one_of "0-1")
    ∷ code =? 5 ⇒ refusing code "fixed-checksum" fixed_fields_size (get_or values 0 0) (number (get_or values 1 0))
    ∷ code =? 3 ⇒ refusing code "part-count" count_at (get_or values 0 0) (number (min most_parts ceiling))
    ∷ code =? 8 ⇒ refusing code (length_name n (get_or values 1 0)) 0 (get_or values 0 0) (number (get_or values 1 0))
    ∷ code =? 6 ⇒ refusing code "variable-checksum" (variable_sum_place n) (get_or values 0 0) (number (get_or values 1 0))
    ∷ code =? 4 ⇒ refusing code "part-size" (size_place (get_or values 0 0)) (get_or values 1 0) (number largest_part)
    ∷ code =? 7 ⇒ refusing code "part-checksum" (sum_place n (get_or values 0 0)) (get_or values 1 0)
    (number (get_or values 2 0))
    ∷ [])
    fine

-- where it carries the index of a part, that part is one of the n
abbrev pub Inside : ℕ → ℕ → List ℕ → Type 0
Inside n code values = pick (code =? 4 || code =? 7) (get_or values 0 0 <? n) true ≡ true

-- what need-more tells
unfoldable pub more_tells : List ℕ → ℕ → Saying
more_tells s n =
    decide
    (length s <? fixed_header_size ⇒ waiting "fixed-header" fixed_header_size
    ∷ length s <? headers n ⇒ waiting "headers" (headers n)
    ∷ [])
    (waiting "whole" (whole s n))

-- what the reader's answer tells
unfoldable pub tells : List ℕ → ℕ → ℕ → Answer → Saying
tells s n ceiling (accepted consumed read) = fine
tells s n ceiling more = more_tells s n
tells s n ceiling (refused code values consumed) = refusal_tells n ceiling code values

-- the limits of a call that lends this table, with as many bytes as are there
abbrev pub within : List ℕ → Mode → ℕ → List ℕ → Limits
within s mode ceiling table = limited mode (length s) ceiling table

-- the answer of the order to n parts
abbrev pub answer_to : List ℕ → ℕ → Limits → Answer
answer_to s n limits = decide (answers (order s n limits)) (accepted (whole s n) (fields s))

-- With the fixed header there, a limit of what is there refuses the length that is waited for.
abbrev pub Waits : List ℕ → ℕ → Mode → ℕ → Type 0
Waits s n mode ceiling =
    (n ≡ count s)
    × ((table : List ℕ) → (length s <? fixed_header_size) ≡ false
    → answer_to s n (within s mode ceiling table)
    ≡ refuse 8 (pick (length s <? headers n) (headers n) (whole s n) ∷ length s ∷ []))
