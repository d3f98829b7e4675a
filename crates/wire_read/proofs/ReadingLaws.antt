-- The walks decide as the lines do. Assumes nothing.
use mathlib.Core.Bool.{false}
use mathlib.Core.Path.{◌≡◌, refl, ◌∙◌, ap}
use mathlib.Core.List.{List, [], ◌∷◌, ◌++◌}
use Prim.Native.Nat.{ℕ, zero, suc, ◌+◌, ◌/◌}
use Rattle.words.specs.Answer.{Answer, accepted, more, refused, NotTaken}
use Rattle.words.specs.Decide.{Line, decide}
use Rattle.words.specs.Note.{Told, answers}
use Rattle.words.proofs.DecideLaws.{decide_append, answers_append}
use Rattle.wire.specs.Layout.{entry_words, values_in, count_at, next_value, next_row}
use Rattle.wire_value.specs.ValueOrder.{value_lines, value_order}
use Rattle.wire_read.specs.Reading.{values_lines, count_lines, rows_lines, head_lines, end_lines, values_of, input_lines, room_lines, reading_lines, reading}
use Rattle.wire_read.specs.Stages.{read_values, count_order, read_row, read_rows, head_order, read_rowset, room_order}
use Rattle.wire_read.specs.Plain.{is_accepted, accepts}

-- what is not taken is not accepted
pub not_accepted : (a : Answer) → NotTaken a → is_accepted a ≡ false
not_accepted (accepted n fields) taken = absurd taken
not_accepted more taken = refl
not_accepted (refused number values consumed) taken = refl

then_lines : (xs ys : List (Line Told)) (rest : Answer) → decide (answers (xs ++ ys)) rest ≡ decide (answers xs) (decide (answers ys) rest)
then_lines xs ys rest = ap (λ (lines : List (Line Answer)). decide lines rest) (answers_append xs ys) ∙ decide_append (answers xs) (answers ys) rest

module _ (s : List ℕ) where
  values_lines_lem : (n at : ℕ) (rest : Answer) → decide (answers (values_lines s n at)) rest ≡ read_values s n at rest
  unfolding values_lines read_values value_order
  values_lines_lem zero at rest = refl
  values_lines_lem (suc n) at rest =
      then_lines (value_lines s at) (values_lines s n (next_value s at)) rest ∙ ap (decide (answers (value_lines s at))) (values_lines_lem n (next_value s at) rest)

  rows_lines_lem : (n i at : ℕ) (rest : Answer) → decide (answers (rows_lines s n i at)) rest ≡ read_rows s n i at rest
  unfolding rows_lines read_rows read_row count_order
  rows_lines_lem zero i at rest = refl
  rows_lines_lem (suc n) i at rest =
      let inside : List (Line Told) = values_lines s (values_in (count_at s at)) (at + 8) in
      let others : List (Line Told) = rows_lines s n (i + 1) (next_row s at) in
      then_lines (count_lines s i at) (inside ++ others) rest
      ∙ ap (decide (answers (count_lines s i at)))
      (then_lines inside others rest ∙ values_lines_lem (values_in (count_at s at)) (at + 8) _ ∙ ap (read_values s (values_in (count_at s at)) (at + 8)) (rows_lines_lem n (i + 1) (next_row s at) rest))

  pub input_lines_lem : (rest : Answer) → decide (answers (input_lines s)) rest ≡ read_rowset s rest
  unfolding input_lines read_rowset head_order
  input_lines_lem rest =
      then_lines (head_lines s) (rows_lines s (count_at s 0) 0 8 ++ end_lines s) rest
      ∙ ap (decide (answers (head_lines s))) (then_lines (rows_lines s (count_at s 0) 0 8) (end_lines s) rest ∙ rows_lines_lem (count_at s 0) 0 8 _)

  pub reading_walks : (rows values : ℕ) → reading s rows values ≡ read_rowset s (decide (room_order s rows (values / entry_words)) (accepted 0 (count_at s 0 ∷ values_of s ∷ [])))
  unfolding reading reading_lines room_order
  reading_walks rows values = then_lines (input_lines s) (room_lines s rows (values / entry_words)) _ ∙ input_lines_lem _

  pub accepts_walks : accepts s ≡ is_accepted (read_rowset s (accepted 0 []))
  unfolding accepts
  accepts_walks = ap is_accepted (input_lines_lem (accepted 0 []))
