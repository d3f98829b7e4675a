-- The order in which a rowset is read, after document 01: front to back, each read that lacks bytes 9 with its offset
-- and shortage; after the row count 10, after a value count 11, a value's checks in their order; at the end 15, then
-- 17, rows before values. The order is one list of lines, in named pieces, each line with what it tells a person; it is
-- laid out only as far as it is looked at. Assumes nothing.
use Rattle.std.specs.Prelude.{ℕ, zero, suc, ◌+◌, ◌-◌, ◌/◌, ◌&&◌, List, [], ◌∷◌, ◌++◌, length}
use Rattle.words.specs.Answer.{Answer, accepted, refuse}
use Rattle.words.specs.Decide.{Line, ◌⇒◌, decide, ◌<?◌, ◌≠?◌}
use Rattle.words.specs.Note.{Told, ◌because◌, finds, number, plainly, answers}
use Rattle.words.specs.Paper.{no_room}
use Rattle.words.specs.declared.outcome.Room.TheVariants.{Rows, Values}
use Rattle.wire.specs.Layout.{null_mark, max_rows, max_values, entry_words, values_in, count_at, next_value, next_row, next_rows, value_count}
use Rattle.wire.specs.Need.{reads}
use Rattle.wire_value.specs.ValueOrder.{value_lines}

-- n values from `at` on
unfoldable pub values_lines : List ℕ → ℕ → ℕ → List (Line Told)
values_lines s zero at = []
values_lines s (suc n) at = value_lines s at ++ values_lines s n (next_value s at)

-- the count of the row number i, which stands at `at`
abbrev pub count_lines : List ℕ → ℕ → ℕ → List (Line Told)
count_lines s i at =
    reads "value-count" s at 8
    ∷ (count_at s at ≠? null_mark && max_values <? count_at s at)
    ⇒ (refuse 11 (i ∷ count_at s at ∷ []) because finds "value-count" at (count_at s at) (number max_values))
    ∷ []

-- n rows from `at` on, the first of them being the row number i: each its count, then its values
unfoldable pub rows_lines : List ℕ → ℕ → ℕ → ℕ → List (Line Told)
rows_lines s zero i at = []
rows_lines s (suc n) i at =
    count_lines s i at ++ (values_lines s (values_in (count_at s at)) (at + 8) ++ rows_lines s n (i + 1) (next_row s at))

-- the row count
abbrev pub head_lines : List ℕ → List (Line Told)
head_lines s =
    reads "row-count" s 0 8
    ∷ max_rows <? count_at s 0 ⇒ (refuse 10 (count_at s 0 ∷ []) because finds "row-count" 0 (count_at s 0) (number max_rows))
    ∷ []

-- the rowset's end: its rows begin behind the row count
abbrev pub end_of : List ℕ → ℕ
end_of s = next_rows s (count_at s 0) 8

abbrev pub values_of : List ℕ → ℕ
values_of s = value_count s (count_at s 0) 8

abbrev pub end_lines : List ℕ → List (Line Told)
end_lines s =
    end_of s <? length s
    ⇒ (refuse 15 ((length s - end_of s) ∷ []) because finds "trailing-bytes" (end_of s) (length s - end_of s) (number 0))
    ∷ []

-- all that the Rust checks
unfoldable pub input_lines : List ℕ → List (Line Told)
input_lines s = head_lines s ++ (rows_lines s (count_at s 0) 0 8 ++ end_lines s)

-- 17, the room in the lent tables, of which the second counts whole entries
abbrev pub room_lines : List ℕ → ℕ → ℕ → List (Line Told)
room_lines s rows values =
    rows <? count_at s 0 ⇒ (no_room Rows (count_at s 0) rows because plainly)
    ∷ values <? values_of s ⇒ (no_room Values (values_of s) values because plainly)
    ∷ []

-- the whole order, for tables of so many words
unfoldable pub reading_lines : List ℕ → ℕ → ℕ → List (Line Told)
reading_lines s rows values = input_lines s ++ room_lines s rows (values / entry_words)

-- What reading s into such tables answers: how many rows and values there are. No bytes are counted, a rowset being its
-- whole input.
unfoldable pub reading : List ℕ → ℕ → ℕ → Answer
reading s rows values = decide (answers (reading_lines s rows values)) (accepted 0 (count_at s 0 ∷ values_of s ∷ []))
