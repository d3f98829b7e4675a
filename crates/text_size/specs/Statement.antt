-- What `text_size` promises, by name. Document 02, A1: "Writing text refuses as the rowset writer does": the lines
-- are those of the rowset's writer. Assumes nothing.
use Rattle.std.specs.Prelude.{ℕ, List, [], length, Result}
use Rattle.words.specs.Answer.{Answer, accepted}
use Rattle.words.specs.Decide.{decide}
use Rattle.words.specs.Statement.{Means}
use Rattle.wire.specs.Content.{rows_in}
use Rattle.wire_check.specs.Writing.{check_lines}
use Rattle.wire_check.specs.Paper.{paper_measured}
use Rattle.wire.specs.declared.error.WireError.{WireError}
use Rattle.text_form.specs.Form.{text}

-- the text of the rows that the tables hold
unfoldable pub tables_text : List ℕ → List ℕ → List ℕ → List ℕ
tables_text area rows values = text (rows_in area rows values)

-- "text-size is the text's bytes for what those checks accept, and otherwise the same refusal"
unfoldable pub sizing_text : List ℕ → List ℕ → List ℕ → Answer
sizing_text area rows values = decide (check_lines area rows values) (accepted (length (tables_text area rows values)) [])

abbrev pub SizesText : List ℕ → List ℕ → List ℕ → Result ℕ WireError → Type 0
SizesText area rows values r = Means paper_measured (sizing_text area rows values) r
