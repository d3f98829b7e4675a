-- What the private stages hand on: nobody has to believe it. Assumes nothing.
use Rattle.std.specs.Prelude.{ℕ, ◌≡◌, List, [], ◌∷◌, ◌++◌, length, Result, Ok, Err}
use Rattle.words.specs.Answer.{Answer}
use Rattle.words.specs.Decide.{decide}
use Rattle.wire.specs.Content.{Cell, content_in, cell_in, cells_in, rows_from}
use Rattle.wire.specs.Paper.{paper}
use Rattle.wire_check.specs.Writing.{check_lines}
use Rattle.wire_check.specs.Stages.{Sound}
use Rattle.wire.specs.declared.error.WireError.{WireError}
use Rattle.text_form.specs.Form.{tab, line_feed, cell_text, text}
use Rattle.text_size.specs.Statement.{tables_text}

-- a value of these words
abbrev pub value_text : List ℕ → ℕ → ℕ → ℕ → ℕ → ℕ → List ℕ
value_text area id type aggregate bits n =
    cell_text (record { id = id; type = type; aggregate = aggregate; content = content_in area type bits n })

-- the value whose entry begins at the word k
abbrev pub entry_text : List ℕ → List ℕ → ℕ → List ℕ
entry_text area values k = cell_text (cell_in area values k)

abbrev pub behind : List Cell → ℕ
behind [] = line_feed
behind (c ∷ cells) = tab

-- values, a byte behind each: a tab, and behind the last a line feed
unfoldable pub closed : List Cell → List ℕ
closed [] = []
closed (c ∷ cells) = cell_text c ++ behind cells ∷ closed cells

-- n values from the word k on
abbrev pub values_text : List ℕ → List ℕ → ℕ → ℕ → List ℕ
values_text area values n k = closed (cells_in area values n k)

-- rows whose entries begin at the word k
abbrev pub rows_text : List ℕ → List ℕ → List ℕ → ℕ → List ℕ
rows_text area rows values k = text (rows_from area rows values k)

-- what the writer goes by: where the checks pass the tables are sound, and what follows the checks decides
abbrev pub TextFits : List ℕ → List ℕ → List ℕ → Result ℕ WireError → Type 0
TextFits area rows values (Ok n) =
    Sound area rows values
    × (n ≡ length (tables_text area rows values))
    × ((rest : Answer) → decide (check_lines area rows values) rest ≡ rest)
TextFits area rows values (Err refusal) =
    (rest : Answer) → decide (check_lines area rows values) rest ≡ paper refusal
