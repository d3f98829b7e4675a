-- One result for each statement: two results, or two exits, that meet a public function's statement are equal.
-- Assumes nothing.
use mathlib.Core.Path.{◌≡◌, sym, ◌∙◌, ap}
use mathlib.Core.List.{List, [], ◌∷◌}
use Prim.Native.Nat.{ℕ}
use Rattle.words.specs.Answer.{Answer, accepted, more, refused, refuse, NotTaken, afterwards}
use Rattle.words.specs.Statement.{Means, Holds, OneResult}
use Rattle.words.specs.Paper.{Tells, NumbersRoom, outcome, room_number, no_room_values}
use Rattle.words.specs.declared.outcome.Room.{Room}
use Rattle.words.specs.declared.outcome.NoRoom.{NoRoom}
use Rattle.words.proofs.AnswerLaws.{not_taken_keeps}

-- what is equal to one thing is equal
pub equal_to_one : {A : Type 0} (a : A) → OneResult (λ (r : A). r ≡ a)
equal_to_one a r r' p q = p ∙ sym q

-- two results that mean one answer are equal, where the map to document 01's terms can be undone
pub means_one : {R : Type 0} (paper : R → Answer) (back : Answer → R) → ((r : R) → back (paper r) ≡ r) → (a : Answer) → OneResult (Means paper a)
means_one paper back undone a r r' p q = sym (undone r) ∙ ap back (p ∙ sym q) ∙ undone r'

-- two exits of a lent buffer are equal
pub holds_one : (a : Answer) (ws before : List ℕ) → OneResult (Holds a ws before)
holds_one a ws before = equal_to_one (afterwards a ws before)

-- what is not taken leaves a lent buffer as it was
pub holds_kept : (a : Answer) (ws before after : List ℕ) → NotTaken a → Holds a ws before after → after ≡ before
holds_kept a ws before after kept holds = holds ∙ not_taken_keeps a ws before kept

pub taken_unique : (count v0 v1 v2 : ℕ) → OneResult (Tells (accepted count (v0 ∷ v1 ∷ v2 ∷ [])))
taken_unique count v0 v1 v2 = equal_to_one (outcome (accepted count (v0 ∷ v1 ∷ v2 ∷ [])))

pub unfinished_unique : OneResult (Tells more)
unfinished_unique = equal_to_one (outcome more)

pub refusal_unique : (number consumed v0 v1 v2 : ℕ) → OneResult (Tells (refused number (v0 ∷ v1 ∷ v2 ∷ []) consumed))
refusal_unique number consumed v0 v1 v2 = equal_to_one (outcome (refused number (v0 ∷ v1 ∷ v2 ∷ []) consumed))

pub room_number_unique : (room : Room) → OneResult (NumbersRoom room)
room_number_unique room = equal_to_one (room_number room)

pub no_room_unique : (short : NoRoom) → OneResult (Tells (refuse 17 (no_room_values short)))
no_room_unique short = equal_to_one (outcome (refuse 17 (no_room_values short)))
