-- What is near the rowset's promises and false, by its witnesses. Assumes nothing.
use mathlib.Core.Path.{◌≡◌, refl, sym, ◌∙◌, ap}
use mathlib.Core.Bool.{true, false, true≢false}
use mathlib.Core.List.{List, [], ◌∷◌, ◌++◌, append-nil}
use Prim.Native.Nat.{ℕ, zero, suc, ◌+◌, ◌*◌, ◌<◌, ◌≤◌}
use native.Mathlib.Omega.{arith}
use lib.ListN.{length, get_or, replicate, length-append, length-replicate}
use Rattle.words.specs.Decide.{first_from}
use Rattle.words.specs.Word.{word, bytes_of, Bytes}
use Rattle.words.specs.declared.outcome.Room.TheVariants.{Rows, Output}
use Rattle.words.proofs.WordLaws.{length_bytes_of, bytes_bytes_of}
use Rattle.wire.specs.Layout.{null_mark, max_length, max_size, string, padding, payload, count_at, next_value, next_values, next_row, next_rows, value_count, row_words, value_words}
use Rattle.wire.specs.declared.error.WireError.TheVariants.{NoRoom}
use Rattle.wire_read.specs.Reading.{values_lines, rows_lines, input_lines, reading_lines, reading}
use Rattle.wire_check.specs.Writing.{total, first_bad, rows_size, rowset_size, rows_limits, check_lines, writing}
use Rattle.wire_read.specs.Plain.{zeros, plain_value, plain_values, plain_rows, accepts, plain}
use Rattle.wire.specs.Content.{Cell, bytes, Row, null, values, cell_bytes, cells_bytes, rows_bytes, bytes_of_rows}
use Rattle.promises.specs.RowContent.{cells_at, rows_at, GoodCell, GoodCells, Writable}
use Rattle.promises.specs.RowsetReader.{EachValue}
use Rattle.promises.specs.Rowsets.{PlainAt}
use Rattle.promises.specs.RowsetRefuted.{two_rows, two_empty_rows, boolean_of_two, padding_of_eight, aggregate_of_two, null_of_one, aggregate_null, NotUnderTheNeighbour, NullIsNotEmpty, LongIsNotPlain, NotWithoutTheBound, NotWithoutTheRoom, AcceptedIsNotPlain}
use Rattle.promises.proofs.ContentRound.{reads_count, behind}
use Rattle.promises.proofs.PlainForm.{rows_each, plain_exactly}
use Rattle.promises.proofs.PlainWritten.{rows_plain}
use Rattle.promises.proofs.Rowsets.{rowset_round_trip}
use Rattle.std.specs.declared.result.Result.TheVariants.{Ok, Err}

abbrev is_null : Row → ℕ
is_null null = 1
is_null (values cells) = 0

pub not_under_the_neighbour : NotUnderTheNeighbour
unfolding two_rows rows_at cells_at next_rows next_row next_values word bytes_of
not_under_the_neighbour claim = let z : ◌≡◌ {A = ℕ} 1 0 = ap is_null (claim two_rows 0 (omega arith)) in omega arith

pub null_is_not_empty : NullIsNotEmpty
unfolding two_rows two_empty_rows rows_at cells_at next_row next_values word bytes_of
null_is_not_empty claim = let z : ◌≡◌ {A = ℕ} 1 0 = ap (λ (rows : List Row). is_null (get_or rows 0 null)) claim in omega arith

pub long_is_not_plain : LongIsNotPlain
long_is_not_plain s true tells long = absurd (omega (arith, ((plain_exactly s true tells).0 refl).0))
long_is_not_plain s false tells long = refl

-- one row of 65 strings of 16,777,216 zeros: more than 2^30 bytes, and all else as the plain form has it

long_blob : List ℕ
long_blob = replicate max_length 0

length_long : length long_blob ≡ max_length
unfolding long_blob
length_long = length-replicate {A = ℕ} max_length 0

long_cell : Cell
long_cell = record { id = 0; type = string; aggregate = 0; content = bytes long_blob }

long_good : GoodCell long_cell
unfolding long_cell
long_good = record { id_fits = omega arith; aggregate_bit = omega arith; fits_type = (refl, omega (arith, length_long)) }

long_bytes : max_length + 8 ≤ length (cell_bytes long_cell)
unfolding long_cell
long_bytes =
    let all : length (cell_bytes (record { id = 0; type = string; aggregate = 0; content = bytes long_blob })) ≡ 2 + (1 + (1 + (4 + (length long_blob + length (replicate {A = ℕ} (padding (length long_blob)) 0))))) =
    simp (length-append, length_bytes_of) in
    omega (arith, length_long)

cells_good : (n : ℕ) → GoodCells (replicate n long_cell)
cells_good zero = tt
cells_good (suc n) = (long_good, cells_good n)

cells_long : (n : ℕ) → n * (max_length + 8) ≤ length (cells_bytes (replicate n long_cell))
unfolding cells_bytes
cells_long zero = omega arith
cells_long (suc n) = rw (length-append (cell_bytes long_cell) (cells_bytes (replicate n long_cell))) (omega (arith, long_bytes, cells_long n))

long_rows : List Row
long_rows = values (replicate 65 long_cell) ∷ []

rows_good : Writable long_rows
unfolding long_rows
rows_good = (omega arith, ((rw (length-replicate {A = Cell} 65 long_cell) (omega arith), cells_good 65), tt))

rows_long : max_size < length (bytes_of_rows long_rows)
unfolding long_rows bytes_of_rows rows_bytes
rows_long =
    let cells : List Cell = replicate 65 long_cell in
    rw (length-append (bytes_of 8 1) ((bytes_of 8 (length cells) ++ cells_bytes cells) ++ []), append-nil (bytes_of 8 (length cells) ++ cells_bytes cells), length-append (bytes_of 8 (length cells)) (cells_bytes cells))
    (omega (arith, cells_long 65))

pub not_without_the_bound : NotWithoutTheBound
not_without_the_bound claim =
    let s : List ℕ = bytes_of_rows long_rows in
    let count : count_at s 0 ≡ length long_rows = reads_count long_rows rows_good in
    let each : EachValue s (PlainAt s) = rows_each s (count_at s 0) 8 (rw count (rows_plain s long_rows 8 [] rows_good.1 (behind long_rows rows_good))) in
    true≢false (sym (claim s (plain s) refl (rowset_round_trip long_rows rows_good).0 each) ∙ long_is_not_plain s (plain s) refl rows_long)

joined : (a b : List ℕ) → Bytes a → Bytes b → Bytes (a ++ b)
joined [] b low high i = high i
joined (n ∷ a) b low high zero = low 0
joined (n ∷ a) b low high (suc i) = joined a b (λ j. low (suc j)) high i

bytes_two : Bytes two_rows
unfolding two_rows
bytes_two = joined (bytes_of 8 2 ++ bytes_of 8 null_mark) (bytes_of 8 0) (joined (bytes_of 8 2) (bytes_of 8 null_mark) (bytes_bytes_of 8 2) (bytes_bytes_of 8 null_mark)) (bytes_bytes_of 8 0)

-- two rows where the tables have no room; no row where the output has none
pub not_without_the_room : NotWithoutTheRoom
unfolding two_rows plain accepts plain_rows plain_values input_lines rows_lines values_lines reading_lines reading writing check_lines first_from rowset_size rows_size rows_limits total first_bad next_rows next_row next_values value_count row_words value_words word bytes_of
not_without_the_room = (
  (λ claim. claim two_rows true [] [] (Err (NoRoom (record { room = Rows; needed = 2; given = 0 }))) [] [] two_rows (Ok 8) _ bytes_two refl tt (refl, refl, refl) (omega arith) (refl, refl) refl),
  (λ claim. claim (bytes_of 8 0) true [] [] (Ok record { rows = 0; values = 0 }) [] [] [] (Err (NoRoom (record { room = Output; needed = 8; given = 0 }))) [] (bytes_bytes_of 8 0) refl (record { for_rows = omega arith; for_values = omega arith }) (refl, refl, refl) tt (refl, refl) refl),
)

pub accepted_is_not_plain : AcceptedIsNotPlain
unfolding boolean_of_two padding_of_eight aggregate_of_two null_of_one aggregate_null accepts plain plain_rows plain_values plain_value zeros input_lines rows_lines values_lines next_rows next_row next_values next_value payload value_count word bytes_of
accepted_is_not_plain = (refl, refl, refl, refl, refl, refl, refl, refl, refl)
