-- What `count_text` promises, by name: how many rows, values and blob bytes a text within the limits has, or what is
-- met first. (The maps of answers promise words' `Tells`.) Assumes nothing.
use Rattle.std.specs.Prelude.{ℕ, List, [], ◌∷◌, ◌⊎◌, length, Result}
use Rattle.std.proofs.Common.{inl, inr}
use Rattle.words.specs.Answer.{Answer, accepted, refuse}
use Rattle.words.specs.Statement.{Means}
use Rattle.places.specs.Machine.{Ending, read, stopped, run}
use Rattle.wire.specs.Content.{Row}
use Rattle.text_form.specs.Walk.{start}
use Rattle.text_form.specs.Limits.{walk_within}
use Rattle.text_steps.specs.Tables.{all_cells, area_bytes}
use Rattle.text_walk.specs.Paper.{walked_paper}
use Rattle.text_walk.specs.declared.error.TextError.{TextError}
use Rattle.text_walk.specs.declared.walk.Walked.{Walked}

-- the reading of a whole text, byte by byte
abbrev pub walking : List ℕ → Ending (List Row) (Unit {0} ⊎ Answer)
walking s = run walk_within start 0 s

-- what follows where the text is of the form and within the limits; else 19 with the place, or the limit that was met
abbrev pub ending_as : (List Row → Answer) → Ending (List Row) (Unit {0} ⊎ Answer) → Answer
ending_as taken (read rows) = taken rows
ending_as taken (stopped place (inl none)) = refuse 19 (place ∷ [])
ending_as taken (stopped place (inr refusal)) = refusal

-- the bytes of the area; rows and values
abbrev pub counts : List Row → Answer
counts rows = accepted (length (area_bytes rows)) (length rows ∷ length (all_cells rows) ∷ [])

unfoldable pub counting : List ℕ → Answer
counting s = ending_as counts (walking s)

abbrev pub Counts : List ℕ → Result Walked TextError → Type 0
Counts s r = Means walked_paper (counting s) r
