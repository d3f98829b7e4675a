-- What ran short by its number, and back; an outcome by the cases of an enum. Assumes nothing.
use Prim.Native.Nat.{ℕ}
use mathlib.Core.List.{List, [], ◌∷◌}
use mathlib.Core.Path.{◌≡◌, refl, sym, ◌∙◌, ap}
use lib.ListN.{get_or}
use Rattle.words.specs.Decide.{◌=?◌, ◌⇒◌, decide}
use Rattle.words.specs.Answer.{Answer}
use Rattle.words.specs.Paper.{room_number, no_room_values, outcome}
use Rattle.words.specs.declared.outcome.Outcome.{Outcome}
use Rattle.words.specs.declared.outcome.NoRoom.{NoRoom}
use Rattle.words.specs.declared.outcome.Room.{Room}
use Rattle.words.specs.declared.outcome.Room.TheVariants.{Parts, Rows, Values, Output, Items, Errors, Attributes}

abbrev pub room_of : ℕ → Room
room_of n =
    decide
    (n =? 1 ⇒ Parts ∷ n =? 2 ⇒ Rows ∷ n =? 3 ⇒ Values ∷ n =? 4 ⇒ Output ∷ n =? 5 ⇒ Items ∷ n =? 6 ⇒ Errors ∷ [])
    Attributes

pub room_back : (room : Room) → room_of (room_number room) ≡ room
room_back Parts = refl
room_back Rows = refl
room_back Values = refl
room_back Output = refl
room_back Items = refl
room_back Errors = refl
room_back Attributes = refl

abbrev pub no_room_of : List ℕ → NoRoom
no_room_of values = record { room = room_of (get_or values 0 0); needed = get_or values 1 0; given = get_or values 2 0 }

pub no_room_back : (short : NoRoom) → no_room_of (no_room_values short) ≡ short
no_room_back short = λ i. record { room = room_back short.room i; needed = short.needed; given = short.given }

-- what is told of a case is told of the enum that is that case
pub case : {E : Type 0} (paper : E → Answer) {e e' : E} {r : Outcome} → e ≡ e' → r ≡ outcome (paper e') → r ≡ outcome (paper e)
case paper known p = p ∙ sym (ap (λ (x : _). outcome (paper x)) known)

-- equal answers have one outcome
pub told : {a b : Answer} {r : Outcome} → a ≡ b → r ≡ outcome a → r ≡ outcome b
told known p = p ∙ ap outcome known
