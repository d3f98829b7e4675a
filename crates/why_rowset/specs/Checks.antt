-- What is told of a rowset: the reader's own lines, but for those of the lent tables, and behind them, for an input
-- that it accepts, those of the plain form. Assumes nothing.
use Rattle.std.specs.Prelude.{ℕ, List, ◌++◌}
use Rattle.words.specs.Decide.{Line}
use Rattle.words.specs.Note.{Told}
use Rattle.wire_read.specs.Reading.{input_lines}
use Rattle.finding.specs.Meaning.{Explains}
use Rattle.finding.specs.declared.Finding.{Finding}
use Rattle.why_rowset.specs.Plain.{plain_lines}

unfoldable pub rowset_checks : List ℕ → List (Line Told)
rowset_checks s = input_lines s ++ plain_lines s

abbrev pub ExplainsRowset : List ℕ → Finding → Type 0
ExplainsRowset s r = Explains (rowset_checks s) r
