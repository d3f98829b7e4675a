-- What a line of an order tells a person, beside its answer (document 02, A9): the field that was looked at, where it
-- stands, what was found there and what was wanted; for need-more the length that is waited for. Assumes nothing.
use Rattle.std.specs.Prelude.{ℕ, List, [], ◌∷◌}
use Prim.Native.String.{String}
use Rattle.words.specs.Decide.{Line, ◌⇒◌}
use Rattle.words.specs.Answer.{Answer}

infix 85 ◌because◌
-- the one right value or the largest allowed, or a list of those allowed
pub data Wanted : Type 0 where
  number : ℕ → Wanted
  one_of : String → Wanted

pub data Note : Type 0 where
  -- need-more: the name of the length that is waited for, and that length
  waits : String → ℕ → Note
  -- a refusal: the field, its offset, what was found, what was wanted
  finds : String → ℕ → ℕ → Wanted → Note
  -- an answer that is no refusal, or one that cannot arise for want of a table
  plainly : Note

-- an answer with its note
pub data Told : Type 0 where
  ◌because◌ : Answer → Note → Told

abbrev pub answer_of : Told → Answer
answer_of (answer because note) = answer

abbrev pub note_of : Told → Note
note_of (answer because note) = note

-- the order's answers, line by line, and its notes
abbrev pub answers : List (Line Told) → List (Line Answer)
answers [] = []
answers ((test ⇒ told) ∷ lines) = (test ⇒ answer_of told) ∷ answers lines

abbrev pub notes : List (Line Told) → List (Line Note)
notes [] = []
notes ((test ⇒ told) ∷ lines) = (test ⇒ note_of told) ∷ notes lines
