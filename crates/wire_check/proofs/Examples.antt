-- The order of writing, computed: each rule of 18, the checks behind it, and what is written of null, empty and short. Assumes nothing.
use mathlib.Core.Path.{◌≡◌, refl}
use mathlib.Core.List.{List, [], ◌∷◌}
use Prim.Native.Nat.{ℕ}
use Rattle.words.specs.Answer.{accepted, refuse}
use Rattle.words.specs.Word.{bytes_of}
use Rattle.wire.specs.Layout.{null_mark, payload, payload_bytes, value_bytes, values_bytes, row_bytes, rows_bytes, rowset_bytes}
use Rattle.wire_check.specs.Writing.{total, bad, first_bad, values_size, rows_size, rowset_size, value_order, values_limits, count_order, rows_limits, check_lines, writing}
use Rattle.words.specs.Decide.{first_from}

-- a word too many
whole_entries : writing [] [] (0 ∷ 2 ∷ 0 ∷ 0 ∷ 0 ∷ 7 ∷ []) 100 ≡ refuse 18 (1 ∷ 1 ∷ [])
unfolding writing check_lines
whole_entries = refl

-- a null row has no value, so one entry is too many
no_sum : writing [] (null_mark ∷ []) (0 ∷ 2 ∷ 0 ∷ 0 ∷ 0 ∷ []) 100 ≡ refuse 18 (2 ∷ 1 ∷ [])
unfolding writing check_lines total
no_sum = refl

-- the second entry is a boolean of 2
bad_boolean : writing [] (2 ∷ []) (0 ∷ 6 ∷ 0 ∷ 1 ∷ 0 ∷ 0 ∷ 6 ∷ 0 ∷ 2 ∷ 0 ∷ []) 100 ≡ refuse 18 (3 ∷ 1 ∷ [])
unfolding writing check_lines total first_bad first_from bad
bad_boolean = refl

-- the row count alone takes eight bytes
no_room : writing [] [] [] 7 ≡ refuse 17 (4 ∷ 8 ∷ 7 ∷ [])
unfolding writing check_lines total first_bad first_from rows_limits rowset_size rows_size
no_room = refl

-- a null row, an empty one, and a row of one string of three bytes
abbrev mixed : List ℕ
mixed = null_mark ∷ 0 ∷ 1 ∷ []

abbrev string : List ℕ
string = 9 ∷ 16 ∷ 1 ∷ 1 ∷ 3 ∷ []

mixed_written : writing (1 ∷ 2 ∷ 3 ∷ 4 ∷ []) mixed string 48 ≡ accepted 48 []
unfolding writing check_lines total first_bad first_from bad rows_limits count_order values_limits value_order rowset_size rows_size values_size payload
mixed_written = refl

mixed_bytes : rowset_bytes (1 ∷ 2 ∷ 3 ∷ 4 ∷ []) mixed string
    ≡ 3 ∷ 0 ∷ 0 ∷ 0 ∷ 0 ∷ 0 ∷ 0 ∷ 0 ∷ 255 ∷ 255 ∷ 255 ∷ 255 ∷ 255 ∷ 255 ∷ 255 ∷ 255 ∷ 0 ∷ 0 ∷ 0 ∷ 0 ∷ 0 ∷ 0 ∷ 0 ∷ 0
    ∷ 1 ∷ 0 ∷ 0 ∷ 0 ∷ 0 ∷ 0 ∷ 0 ∷ 0 ∷ 9 ∷ 0 ∷ 16 ∷ 1 ∷ 3 ∷ 0 ∷ 0 ∷ 0 ∷ 2 ∷ 3 ∷ 4 ∷ 0 ∷ 0 ∷ 0 ∷ 0 ∷ 0 ∷ []
unfolding rowset_bytes rows_bytes row_bytes values_bytes value_bytes payload_bytes bytes_of
mixed_bytes = refl
