-- What the code's answers mean in document 01's terms: what ran short by its number, and an answer in words. Assumes
-- nothing.
use Rattle.std.specs.Prelude.{ℕ, List, [], ◌∷◌, ◌≡◌, get_or}
use Rattle.words.specs.Answer.{Answer, accepted, more, refused, refuse}
use Rattle.words.specs.Decide.{Line, ◌⇒◌, ◌<?◌}
use Rattle.words.specs.declared.outcome.Outcome.{Outcome}
use Rattle.words.specs.declared.outcome.NoRoom.{NoRoom}
use Rattle.words.specs.declared.outcome.Room.{Room}
use Rattle.words.specs.declared.outcome.Room.TheVariants.{Parts, Rows, Values, Output, Items, Errors, Attributes}

-- "17 NoRoom: which (1 parts, 2 rows, 3 values, 4 output), needed, given"; document 02 adds 5 items (A4), 6 errors and
-- 7 attributes (A10)
abbrev pub room_number : Room → ℕ
room_number Parts = 1
room_number Rows = 2
room_number Values = 3
room_number Output = 4
room_number Items = 5
room_number Errors = 6
room_number Attributes = 7

abbrev pub no_room_values : NoRoom → List ℕ
no_room_values short = room_number short.room ∷ short.needed ∷ short.given ∷ []

abbrev pub no_room : Room → ℕ → ℕ → Answer
no_room room needed given = refuse 17 (room_number room ∷ needed ∷ given ∷ [])

-- the check for room: so much is needed, and so much was lent
abbrev pub room_line : Room → ℕ → ℕ → Line Answer
room_line room needed given = given <? needed ⇒ no_room room needed given

-- the values in their order, 0 where there are fewer than seven
abbrev pub outcome_of : ℕ → ℕ → ℕ → List ℕ → Outcome
outcome_of k n c values =
    record {
      kind = k;
      number = n;
      count = c;
      v0 = get_or values 0 0;
      v1 = get_or values 1 0;
      v2 = get_or values 2 0;
      v3 = get_or values 3 0;
      v4 = get_or values 4 0;
      v5 = get_or values 5 0;
      v6 = get_or values 6 0;
    }

-- kinds: 0 accepted, 1 need-more, 2 refused
abbrev pub outcome : Answer → Outcome
outcome (accepted count fields) = outcome_of 0 0 count fields
outcome more = outcome_of 1 0 0 []
outcome (refused number values consumed) = outcome_of 2 number consumed values

-- r is this answer in words
abbrev pub Tells : Answer → Outcome → Type 0
Tells answer r = r ≡ outcome answer

-- r is the number of what ran short
abbrev pub NumbersRoom : Room → ℕ → Type 0
NumbersRoom room r = r ≡ room_number room
