-- What a person is told of an input, after document 02, A9: "the number, the field's name, its offset, the value found
-- and the bound or value wanted"; "For need-more it says which length was being waited for. Any other accepted input
-- prints `ok`". It is what the line of the order that decides has beside its answer. Assumes nothing.
use Rattle.std.specs.Prelude.{ℕ, List, []}
use Prim.Native.String.{String}
use Rattle.words.specs.Answer.{Answer, accepted, more, refused}
use Rattle.words.specs.Decide.{Line, decide}
use Rattle.words.specs.Note.{Note, waits, finds, plainly, Wanted, Told, ◌because◌}

pub data Saying : Type 0 where
  fine : Saying
  -- the length that is waited for, by its name
  waiting : String → ℕ → Saying
  -- a refusal's number, the field, its offset, what was found and what was wanted
  refusing : ℕ → String → ℕ → ℕ → Wanted → Saying
  -- the same of an accepted rowset that is not plain, which has no number
  breaking : String → ℕ → ℕ → Wanted → Saying

-- what was found, with the number where the answer is a refusal
abbrev pub found : Answer → String → ℕ → ℕ → Wanted → Saying
found (refused number values consumed) field offset value wanted = refusing number field offset value wanted
found (accepted consumed fields) field offset value wanted = breaking field offset value wanted
found more field offset value wanted = breaking field offset value wanted

abbrev pub noted : Answer → Note → Saying
noted answer plainly = fine
noted answer (waits name length) = waiting name length
noted answer (finds field offset value wanted) = found answer field offset value wanted

abbrev pub saying : Told → Saying
saying (answer because note) = noted answer note

-- accepted, and nothing to be told
abbrev pub untold : Told
untold = accepted 0 [] because plainly

-- what an order tells: the first line whose test holds, else nothing
abbrev pub explain : List (Line Told) → Saying
explain lines = saying (decide lines untold)
