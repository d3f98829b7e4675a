-- What each exported function on a rowset's text promises, by name: its outcome is that of the answer that the
-- library's definitions give, and each lent buffer holds afterwards what they say. Assumes nothing.
use Rattle.std.specs.Prelude.{ℕ, ◌/◌, List, length}
use Rattle.words.specs.Paper.{Tells}
use Rattle.words.specs.Statement.{Holds}
use Rattle.words.specs.declared.outcome.Outcome.{Outcome}
use Rattle.wire.specs.Layout.{entry_words}
use Rattle.text_size.specs.Statement.{tables_text, sizing_text}
use Rattle.text_write.specs.Statement.{writing_text}
use Rattle.text_steps.specs.Tables.{row_table, value_table, area_bytes}
use Rattle.text_walk.specs.Statement.{walking}
use Rattle.text_read.specs.Statement.{rows_read, reading_text}

abbrev pub MeasuresText : List ℕ → List ℕ → List ℕ → Outcome → Type 0
MeasuresText area rows values r = Tells (sizing_text area rows values) r

abbrev pub WritesRowsetText : List ℕ → List ℕ → List ℕ → List ℕ → Outcome → List ℕ → Type 0
WritesRowsetText area rows values before r after =
    let answer = writing_text area rows values (length before) in
    Tells answer r × Holds answer (tables_text area rows values) before after

-- the rows over the front of one table, their values over the other's, and their blobs over the area's
abbrev pub ReadsRowsetText : List ℕ → List ℕ → List ℕ → List ℕ → Outcome → List ℕ → List ℕ → List ℕ → Type 0
ReadsRowsetText s rows values area r rows' values' area' =
    let answer = reading_text s (length rows) (length values / entry_words) (length area) in
    let read = rows_read (walking s) in
    Tells answer r × Holds answer (row_table read) rows rows' × Holds answer (value_table read) values values'
    × Holds answer (area_bytes read) area area'
