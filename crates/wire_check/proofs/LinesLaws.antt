-- The walks decide as the lines do. Assumes nothing.
use mathlib.Core.Path.{◌≡◌, refl, sym, ◌∙◌, ap}
use mathlib.Core.List.{List, [], ◌∷◌, ◌++◌}
use Prim.Native.Nat.{ℕ, zero, suc, ◌+◌, ◌*◌}
use Rattle.words.specs.Answer.{Answer, accepted}
use Rattle.words.specs.Decide.{Line, decide}
use Rattle.words.proofs.DecideLaws.{decide_append}
use Rattle.wire.specs.Layout.{entry_words, values_in}
use Rattle.words.specs.Paper.{room_line}
use Rattle.words.specs.declared.outcome.Room.TheVariants.{Output}
use Rattle.wire_check.specs.Writing.{type_in, length_in, value_size, row_size, rowset_size, value_order, values_limits, count_order, rows_limits, bad_table_lines, too_many_rows, limit_lines, check_lines, measuring, writing}
use Rattle.wire_check.specs.Stages.{table_order, fit_values, fit_row, fit_rows, fitting}

module _ (values : List ℕ) where
  values_lines_lem : (n k size : ℕ) (rest : Answer) → decide (values_limits values n k size) rest ≡ fit_values values n k size rest
  unfolding values_limits fit_values
  values_lines_lem zero k size rest = refl
  values_lines_lem (suc n) k size rest =
      let first : List (Line Answer) = value_order (type_in values k) (length_in values k) size in
      decide_append first (values_limits values n (k + entry_words) (size + value_size values k)) rest ∙ ap (decide first) (values_lines_lem n (k + entry_words) (size + value_size values k) rest)

  rows_lines_lem : (rows : List ℕ) (i k size : ℕ) (rest : Answer) → decide (rows_limits rows values i k size) rest ≡ fit_rows rows values i k size rest
  unfolding rows_limits fit_rows fit_row
  rows_lines_lem [] i k size rest = refl
  rows_lines_lem (count ∷ rows) i k size rest =
      let inside : List (Line Answer) = values_limits values (values_in count) k (size + 8) in
      let others : List (Line Answer) = rows_limits rows values (i + 1) (k + entry_words * values_in count) (size + row_size values count k) in
      decide_append (count_order count i size) (inside ++ others) rest
      ∙ ap (decide (count_order count i size))
      (decide_append inside others rest ∙ values_lines_lem (values_in count) k (size + 8) _
      ∙ ap (fit_values values (values_in count) k (size + 8)) (rows_lines_lem rows (i + 1) (k + entry_words * values_in count) (size + row_size values count k) rest))

module _ (area rows values : List ℕ) where
  pub check_lines_lem : (rest : Answer) → decide (check_lines area rows values) rest ≡ fitting area rows values rest
  unfolding check_lines fitting table_order
  check_lines_lem rest =
      decide_append (bad_table_lines area rows values) (limit_lines rows values) rest
      ∙ ap (λ (walk : Answer). decide (bad_table_lines area rows values) (decide (too_many_rows rows ∷ []) walk)) (rows_lines_lem values rows 0 0 8 rest)
      ∙ sym (decide_append (bad_table_lines area rows values) (too_many_rows rows ∷ []) (fit_rows rows values 0 0 8 rest))

  pub measuring_walks : measuring area rows values ≡ fitting area rows values (accepted (rowset_size rows values) [])
  unfolding measuring
  measuring_walks = check_lines_lem _

  pub writing_walks : (room : ℕ) → writing area rows values room ≡ fitting area rows values (decide (room_line Output (rowset_size rows values) room ∷ []) (accepted (rowset_size rows values) []))
  unfolding writing
  writing_walks room = decide_append (check_lines area rows values) (room_line Output (rowset_size rows values) room ∷ []) _ ∙ check_lines_lem _
