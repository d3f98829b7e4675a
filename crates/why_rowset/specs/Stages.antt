-- What the private stages hand on: nobody has to believe it. A stage decides some lines of the reader's order: what it
-- finds is what they tell, whatever stands behind them; where it goes on they are silent, and the first line of the
-- plain form that holds so far is kept. Assumes nothing.
use Rattle.std.specs.Prelude.{ℕ, ◌+◌, ◌≤◌, ◌≡◌, true, false, ◌&&◌, List, [], ◌∷◌, ◌++◌, length, Result, Ok, Err}
use Rattle.words.specs.Decide.{Line, ◌⇒◌, decide, ◌<?◌, ◌=?◌, ◌≠?◌}
use Rattle.words.specs.Note.{Told}
use Rattle.words.specs.Paper.{outcome}
use Rattle.wire.specs.Layout.{max_length, boolean, known, blob, payload_at, values_in, type_at, length_at, scalar_at, count_at, next_value, next_values, next_row, next_rows}
use Rattle.wire.specs.Paper.{paper}
use Rattle.wire.specs.declared.error.WireError.{WireError}
use Rattle.wire_value.specs.ValueOrder.{value_lines}
use Rattle.wire_value.specs.ValueOf.{header_at}
use Rattle.wire_read.specs.Reading.{values_lines, count_lines, rows_lines, input_lines, end_of}
use Rattle.finding.specs.Saying.{Saying, fine, waiting, refusing, breaking, saying}
use Rattle.finding.specs.Meaning.{meaning}
use Rattle.finding.specs.declared.Finding.{Finding}
use Rattle.finding.specs.declared.Finding.TheVariants.{Fine}
use Rattle.why_rowset.specs.Plain.{breaks, plain_value_lines, plain_values_lines, plain_rows_lines, plain_lines}
use Rattle.wire_value.specs.declared.value.Checked.{Checked}
use Rattle.why_rowset.specs.declared.walk.Walked.{Walked}

-- a refusal's number
abbrev pub number_of : WireError → ℕ
number_of error = (outcome (paper error)).number

-- the first thing to be told, else the second
abbrev pub firstly : Saying → Saying → Saying
firstly fine rest = rest
firstly (waiting name n) rest = waiting name n
firstly (refusing code field offset value wanted) rest = refusing code field offset value wanted
firstly (breaking field offset value wanted) rest = breaking field offset value wanted

-- what was kept before, else what these lines tell first, is kept afterwards
abbrev pub Keeps : List (Line Told) → Finding → Finding → Type 0
Keeps lines before after =
    (rest : Told) → firstly (meaning after) (saying rest) ≡ firstly (meaning before) (saying (decide lines rest))

-- r is what these lines tell first
abbrev pub Finds : List (Line Told) → Finding → Type 0
Finds lines r = Keeps lines Fine r

-- so the two words of a value that is no blob
abbrev pub word_lines : List ℕ → ℕ → List (Line Told)
word_lines s at =
    length_at s at ≠? 0 ⇒ breaks "length" (at + 4) (length_at s at) 0
    ∷ (type_at s at =? boolean && 1 <? scalar_at s at) ⇒ breaks "word" (at + 8) (scalar_at s at) 1
    ∷ []

abbrev pub FindsWords : List ℕ → ℕ → Finding → Type 0
FindsWords s at r = Finds (word_lines s at) r

-- these lines are silent, or tell this whatever stands behind them
abbrev pub Quiet : List (Line Told) → Type 0
Quiet lines = (rest : Told) → decide lines rest ≡ rest

abbrev pub Tell : List (Line Told) → Finding → Type 0
Tell lines finding = (rest : Told) → meaning finding ≡ saying (decide lines rest)

-- the type of the value at `at` is known, a blob's length is allowed, and the payload is to have so many bytes
abbrev pub Asks : List ℕ → ℕ → ℕ → Type 0
Asks s at size =
    (known (type_at s at) ≡ true)
    × ((blob (type_at s at) && max_length <? length_at s at) ≡ false)
    × (payload_at s at ≡ size)

-- the checks of the value at `at`
abbrev pub Checks : List ℕ → ℕ → Result Checked Finding → Type 0
Checks s at (Ok v) =
    (v.header ≡ header_at s at) × (v.next ≡ next_value s at) × (v.next ≤ length s) × Quiet (value_lines s at)
Checks s at (Err finding) = Tell (value_lines s at) finding

-- a stretch of the walk: its checks, the plain form's lines, and where it ends
abbrev pub Goes : List ℕ → List (Line Told) → List (Line Told) → ℕ → Finding → Result Walked Finding → Type 0
Goes s checks plain next before (Ok w) = (w.next ≡ next) × (w.next ≤ length s) × Quiet checks × Keeps plain before w.plain
Goes s checks plain next before (Err finding) = Tell checks finding

abbrev pub WalksValue : List ℕ → ℕ → Finding → Result Walked Finding → Type 0
WalksValue s at before r = Goes s (value_lines s at) (plain_value_lines s at) (next_value s at) before r

abbrev pub WalksValues : List ℕ → ℕ → ℕ → Finding → Result Walked Finding → Type 0
WalksValues s n at before r = Goes s (values_lines s n at) (plain_values_lines s n at) (next_values s n at) before r

abbrev pub WalksRow : List ℕ → ℕ → ℕ → Finding → Result Walked Finding → Type 0
WalksRow s i at before r =
    let n = values_in (count_at s at) in
    Goes s (count_lines s i at ++ values_lines s n (at + 8)) (plain_values_lines s n (at + 8)) (next_row s at) before r

-- n rows from `at` on, the first of them being the row number i
abbrev pub WalksRowsFrom : List ℕ → ℕ → ℕ → ℕ → Finding → Result Walked Finding → Type 0
WalksRowsFrom s n i at before r = Goes s (rows_lines s n i at) (plain_rows_lines s n at) (next_rows s n at) before r

abbrev pub WalksRows : List ℕ → ℕ → Result Walked Finding → Type 0
WalksRows s n r = WalksRowsFrom s n 0 8 Fine r

abbrev pub WalksRowset : List ℕ → Result Walked Finding → Type 0
WalksRowset s r = Goes s (input_lines s) (plain_lines s) (end_of s) Fine r
