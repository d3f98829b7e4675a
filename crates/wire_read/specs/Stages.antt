-- What the private stages hand on: nobody has to believe it. The order of reading as walks, each given what follows
-- where none of its checks holds; and where a walk comes to. (proofs/ReadingLaws.antt: the walks decide as the lines
-- do.) Assumes nothing.
use Rattle.std.specs.Prelude.{ℕ, zero, suc, ◌+◌, ◌≤◌, ◌≡◌, Bool, true, false, List, length, Option, Some, None, Result, Ok, Err}
use Rattle.words.specs.Answer.{Answer}
use Rattle.words.specs.Decide.{Line, decide}
use Rattle.words.specs.Note.{answers}
use Rattle.wire.specs.Layout.{values_in, count_at, next_value, next_values, next_row, next_rows, value_count}
use Rattle.wire.specs.Paper.{paper}
use Rattle.wire.specs.declared.error.WireError.{WireError}
use Rattle.wire_value.specs.ValueOrder.{value_order}
use Rattle.wire_read.specs.Reading.{count_lines, head_lines, end_lines, room_lines, end_of, values_of}
use Rattle.wire_read.specs.declared.walk.Walked.{Walked}

-- n values from `at` on
unfoldable pub read_values : List ℕ → ℕ → ℕ → Answer → Answer
read_values s zero at rest = rest
read_values s (suc n) at rest =
    let others = read_values s n (next_value s at) rest in
    decide (value_order s at) others

unfoldable pub count_order : List ℕ → ℕ → ℕ → List (Line Answer)
count_order s i at = answers (count_lines s i at)

unfoldable pub read_row : List ℕ → ℕ → ℕ → Answer → Answer
read_row s i at rest =
    let values = read_values s (values_in (count_at s at)) (at + 8) rest in
    decide (count_order s i at) values

-- n rows from `at` on, the first of them being the row number i
unfoldable pub read_rows : List ℕ → ℕ → ℕ → ℕ → Answer → Answer
read_rows s zero i at rest = rest
read_rows s (suc n) i at rest =
    let others = read_rows s n (i + 1) (next_row s at) rest in
    read_row s i at others

unfoldable pub head_order : List ℕ → List (Line Answer)
head_order s = answers (head_lines s)

unfoldable pub read_rowset : List ℕ → Answer → Answer
read_rowset s rest =
    let trailing = decide (answers (end_lines s)) rest in
    let rows = read_rows s (count_at s 0) 0 8 trailing in
    decide (head_order s) rows

unfoldable pub room_order : List ℕ → ℕ → ℕ → List (Line Answer)
room_order s rows values = answers (room_lines s rows values)

-- Where none of a stage's checks holds, what follows decides, and the stage ends at `next` within the input, having
-- passed so many values; else the refusal, whatever follows.
abbrev pub Walk : List ℕ → (Answer → Answer) → ℕ → ℕ → Result Walked WireError → Type 0
Walk s reads next values (Ok w) =
    (w.next ≡ next) × (w.values ≡ values) × (w.next ≤ length s) × ((rest : Answer) → reads rest ≡ rest)
Walk s reads next values (Err refusal) = (rest : Answer) → reads rest ≡ paper refusal

abbrev pub WalksValues : List ℕ → ℕ → ℕ → Result Walked WireError → Type 0
WalksValues s n at r = Walk s (read_values s n at) (next_values s n at) n r

abbrev pub WalksRow : List ℕ → ℕ → ℕ → Result Walked WireError → Type 0
WalksRow s i at r = Walk s (read_row s i at) (next_row s at) (values_in (count_at s at)) r

abbrev pub WalksRows : List ℕ → ℕ → ℕ → ℕ → Result Walked WireError → Type 0
WalksRows s n i at r = Walk s (read_rows s n i at) (next_rows s n at) (value_count s n at) r

abbrev pub WalksRowset : List ℕ → Result Walked WireError → Type 0
WalksRowset s r = Walk s (read_rowset s) (end_of s) (values_of s) r

-- values are plain up to the offset, or some value is not
abbrev pub PlainTill : Bool → ℕ → Option ℕ → Type 0
PlainTill is next (Some at) = (is ≡ true) × (at ≡ next)
PlainTill is next None = is ≡ false
