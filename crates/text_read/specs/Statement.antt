-- What `read_text` promises, by name, over the text, the result and the lent tables and area at entry and at exit.
-- Document 02, A1: 19, 10, 13, 11 and 12 "as met", "then 17 (2, 3, 4 for the area)". Assumes nothing.
use Rattle.std.specs.Prelude.{ℕ, ◌/◌, List, [], ◌∷◌, ◌⊎◌, length, Result}
use Rattle.words.specs.Answer.{Answer}
use Rattle.words.specs.Decide.{decide}
use Rattle.words.specs.Paper.{room_line}
use Rattle.words.specs.Statement.{Means, Holds}
use Rattle.words.specs.declared.outcome.Room.TheVariants.{Rows, Values, Output}
use Rattle.places.specs.Machine.{Ending, read, stopped}
use Rattle.wire.specs.Layout.{entry_words}
use Rattle.wire.specs.Content.{Row}
use Rattle.text_steps.specs.Tables.{all_cells, row_table, value_table, area_bytes}
use Rattle.text_walk.specs.Paper.{walked_paper}
use Rattle.text_walk.specs.Statement.{walking, ending_as, counts}
use Rattle.text_walk.specs.declared.error.TextError.{TextError}
use Rattle.text_walk.specs.declared.walk.Walked.{Walked}

-- the rows that a text has; none where it is refused
abbrev pub rows_read : Ending (List Row) (Unit {0} ⊎ Answer) → List Row
rows_read (read rows) = rows
rows_read (stopped place why) = []

-- 17: so many row entries, value entries and bytes were lent
abbrev pub roomed : ℕ → ℕ → ℕ → List Row → Answer
roomed rowRoom valueRoom byteRoom rows =
    decide
    (room_line Rows (length rows) rowRoom
    ∷ room_line Values (length (all_cells rows)) valueRoom
    ∷ room_line Output (length (area_bytes rows)) byteRoom
    ∷ [])
    (counts rows)

unfoldable pub reading_text : List ℕ → ℕ → ℕ → ℕ → Answer
reading_text s rowRoom valueRoom byteRoom = ending_as (roomed rowRoom valueRoom byteRoom) (walking s)

-- the answer, and where it is no refusal the rows over the front of one table, their values over the other's, and their
-- blobs over the area's
pub record ReadsText (s rows values area : List ℕ) (r : Result Walked TextError) (rows' values' area' : List ℕ)
    : Type 0 where
  pub means : Means walked_paper (reading_text s (length rows) (length values / entry_words) (length area)) r
  pub rows_hold : Holds (reading_text s (length rows) (length values / entry_words) (length area))
      (row_table (rows_read (walking s))) rows rows'
  pub values_hold : Holds (reading_text s (length rows) (length values / entry_words) (length area))
      (value_table (rows_read (walking s))) values values'
  pub area_holds : Holds (reading_text s (length rows) (length values / entry_words) (length area))
      (area_bytes (rows_read (walking s))) area area'
