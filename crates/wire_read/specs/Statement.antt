-- What each public function promises, by name, over the inputs, the result and the lent tables at entry and at exit.
-- (The map of answers promises words' `Tells` of `paper_decoded`.) Assumes nothing.
use Rattle.std.specs.Prelude.{ℕ, ◌≡◌, Bool, List, length, Result}
use Rattle.words.specs.Statement.{Means, Holds}
use Rattle.wire.specs.Layout.{count_at, row_words, value_words}
use Rattle.wire.specs.declared.error.WireError.{WireError}
use Rattle.wire_read.specs.Reading.{reading}
use Rattle.wire_read.specs.Plain.{plain}
use Rattle.wire_read.specs.Paper.{paper_decoded}
use Rattle.wire_read.specs.declared.rowset.Decoded.{Decoded}

-- what was read, and what the two tables hold afterwards
abbrev pub Decodes : List ℕ → List ℕ → List ℕ → Result Decoded WireError → List ℕ → List ℕ → Type 0
Decodes s rows values r rows' values' =
    let answer = reading s (length rows) (length values) in
    Means paper_decoded answer r
    × Holds answer (row_words s (count_at s 0) 8) rows rows'
    × Holds answer (value_words s (count_at s 0) 8) values values'

-- yes exactly where the input has the plain form
abbrev pub TellsPlain : List ℕ → Bool → Type 0
TellsPlain s r = r ≡ plain s
