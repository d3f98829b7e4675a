-- Document 01's examples on rowsets, over the definitions. Assumes nothing.
use Prim.Native.Nat.{ℕ}
use mathlib.Core.Path.{◌≡◌, refl, ◌∙◌}
use mathlib.Core.List.{List, [], ◌∷◌, ◌++◌}
use lib.ListN.{replicate}
use Rattle.words.specs.Word.{word, bytes_of}
use Rattle.words.specs.Answer.{accepted, refuse}
use Rattle.wire.specs.Layout.{null_mark, payload, next_value, next_values, next_row, next_rows, value_count, row_words}
use Rattle.wire_read.specs.Stages.{count_order, read_row, read_rows, head_order, read_rowset, room_order}
use Rattle.wire_read.proofs.ReadingLaws.{reading_walks}
use Rattle.wire_read.specs.Reading.{values_lines, rows_lines, input_lines, reading_lines, reading}

-- an empty input gives 9 (0, 8)
pub empty_input : reading [] 9 9 ≡ refuse 9 (0 ∷ 8 ∷ [])
unfolding reading reading_lines input_lines
empty_input = refl

-- count 1 and the null mark: one null row
unfoldable pub null_row : List ℕ
null_row = bytes_of 8 1 ++ bytes_of 8 null_mark

pub one_null_row : reading null_row 1 0 ≡ accepted 0 (1 ∷ 0 ∷ [])
unfolding reading reading_lines input_lines rows_lines values_lines next_rows next_row next_values value_count word bytes_of null_row
one_null_row = refl

pub one_null_row_words : row_words null_row 1 8 ≡ null_mark ∷ []
unfolding row_words word bytes_of null_row
one_null_row_words = refl

-- count 1 and count 0: one empty row
unfoldable pub empty_row : List ℕ
empty_row = bytes_of 8 1 ++ bytes_of 8 0

pub one_empty_row : reading empty_row 1 0 ≡ accepted 0 (1 ∷ 0 ∷ [])
unfolding reading reading_lines input_lines rows_lines values_lines next_rows next_row next_values value_count word bytes_of empty_row
one_empty_row = refl

pub one_empty_row_words : row_words empty_row 1 8 ≡ 0 ∷ []
unfolding row_words word bytes_of empty_row
one_empty_row_words = refl

-- a five-byte string whose padding is missing is three short
unfoldable pub unpadded : List ℕ
unpadded = bytes_of 8 1 ++ bytes_of 8 1 ++ (7 ∷ 0 ∷ 16 ∷ 0 ∷ []) ++ bytes_of 4 5 ++ replicate 5 97

pub three_short : reading unpadded 1 1 ≡ refuse 9 (24 ∷ 3 ∷ [])
unfolding reading reading_lines input_lines rows_lines values_lines next_rows next_row next_values next_value payload value_count word bytes_of unpadded
three_short = refl

-- an input that announces every row allowed and has none (by the walks, which look no further than the answer)
pub announced : reading (bytes_of 8 5242880) 1 1 ≡ refuse 9 (8 ∷ 8 ∷ [])
unfolding read_rowset read_rows read_row head_order count_order room_order next_rows next_row next_values next_value payload value_count word bytes_of
announced = reading_walks (bytes_of 8 5242880) 1 1 ∙ refl
