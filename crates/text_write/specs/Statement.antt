-- What `write_text` promises, by name. Document 02, A1: "Writing text refuses as the rowset writer does": the lines
-- before the room are those of the rowset's writer. Assumes nothing.
use Rattle.std.specs.Prelude.{ℕ, List, [], ◌∷◌, ◌++◌, length, Result}
use Rattle.words.specs.Answer.{Answer, accepted}
use Rattle.words.specs.Decide.{decide}
use Rattle.words.specs.Paper.{room_line}
use Rattle.words.specs.Statement.{Means, Holds}
use Rattle.words.specs.declared.outcome.Room.TheVariants.{Output}
use Rattle.wire_check.specs.Writing.{check_lines}
use Rattle.wire_write.specs.Paper.{paper_encoded}
use Rattle.wire.specs.declared.error.WireError.{WireError}
use Rattle.text_size.specs.Statement.{tables_text}

-- into an output of so many bytes: "Then 17 with 4, the bytes of the text, and the bytes given"
unfoldable pub writing_text : List ℕ → List ℕ → List ℕ → ℕ → Answer
writing_text area rows values room =
    let size = length (tables_text area rows values) in
    decide (check_lines area rows values ++ room_line Output size room ∷ []) (accepted size [])

-- lent an output that held `before` and holds `after`
abbrev pub WritesText : List ℕ → List ℕ → List ℕ → List ℕ → Result ℕ WireError → List ℕ → Type 0
WritesText area rows values before r after =
    let answer = writing_text area rows values (length before) in
    Means paper_encoded answer r × Holds answer (tables_text area rows values) before after
