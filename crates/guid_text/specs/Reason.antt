-- Why a text goes wrong at a place. Document 02, A5: "a field is empty, a field is too long, a byte is not a hex digit,
-- or the number of fields is wrong", and of these the first that holds there: "A ninth byte of a field other than a
-- dash is "too long"; a dash or end with no byte before it in its field is "empty", ahead of a wrong number of fields."
-- Assumes nothing.
use Rattle.std.specs.Prelude.{ℕ, Bool, not, ◌&&◌, ◌||◌, List, [], ◌∷◌, length, get_or, take}
use Rattle.words.specs.Decide.{Line, ◌⇒◌, ◌<?◌, ◌=?◌}
use Rattle.words.specs.Text.{digit_of}
use Rattle.guid_text.specs.declared.Reason.{Reason}
use Rattle.guid_text.specs.declared.Reason.TheVariants.{Empty, TooLong, NotHex, FieldCount}
use Rattle.guid_text.specs.Fields.{dash}
use Rattle.guid_text.specs.Split.{fields, last_of}

-- the reasons in the order of document 02's sentence
abbrev pub reason_number : Reason → ℕ
reason_number Empty = 1
reason_number TooLong = 2
reason_number NotHex = 3
reason_number FieldCount = 4

-- the place p of the text s
module _ (s : List ℕ) (p : ℕ) where
  abbrev pub at_end : Bool
  at_end = p =? length s

  -- a byte past the end counts as 0, which is no dash
  abbrev pub at_dash : Bool
  at_dash = get_or s p 0 =? dash

  abbrev pub at_other : Bool
  at_other = not (at_end || at_dash)

  -- the number of the field that it is in, from 1 on
  abbrev pub field_number : ℕ
  field_number = length (fields (take p s))

  -- how many bytes stand before it in that field
  abbrev pub bytes_before : ℕ
  bytes_before = length (last_of (fields (take p s)))

  abbrev pub reasons : List (Line Reason)
  reasons =
      ((at_end || at_dash) && bytes_before =? 0) ⇒ Empty
      ∷ (at_other && 7 <? bytes_before) ⇒ TooLong
      ∷ (at_other && 15 <? digit_of (get_or s p 0)) ⇒ NotHex
      ∷ ((at_dash && field_number =? 4) || (at_end && field_number <? 4)) ⇒ FieldCount
      ∷ []
