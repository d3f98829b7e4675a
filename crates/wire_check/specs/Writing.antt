-- The order in which a rowset is written from lent tables over a byte area, after document 01: 18; 10; then row by row
-- 13 for its word, 11, and value by value 12, 13; then 17. The order is one list of lines, in named pieces, 18 apart
-- from the limits. Assumes nothing.
use Rattle.std.specs.Prelude.{ℕ, zero, suc, ◌+◌, ◌*◌, ◌/◌, ◌%◌, Bool, ◌&&◌, ◌||◌, not, List, [], ◌∷◌, ◌++◌, length, get_or}
use Rattle.words.specs.Answer.{Answer, accepted, refuse}
use Rattle.words.specs.Paper.{room_line}
use Rattle.words.specs.declared.outcome.Room.TheVariants.{Output}
use Rattle.words.specs.Decide.{Line, ◌⇒◌, decide, pick, first, ◌<?◌, ◌=?◌, ◌≠?◌}
use Rattle.wire.specs.Layout.{max_rows, max_values, max_length, max_size, entry_words, null_type, boolean, blob, known, payload, values_in}

-- The entry of a value that begins at the word k of the table: its five words

abbrev pub id_in : List ℕ → ℕ → ℕ
id_in values k = get_or values k 0

abbrev pub type_in : List ℕ → ℕ → ℕ
type_in values k = get_or values (k + 1) 0

abbrev pub aggregate_in : List ℕ → ℕ → ℕ
aggregate_in values k = get_or values (k + 2) 0

-- the scalar's bits or the blob's offset
abbrev pub bits_in : List ℕ → ℕ → ℕ
bits_in values k = get_or values (k + 3) 0

abbrev pub length_in : List ℕ → ℕ → ℕ
length_in values k = get_or values (k + 4) 0

-- 18: what is wrong with the tables

-- how many whole entries
abbrev pub entries_in : List ℕ → ℕ
entries_in values = length values / entry_words

-- the values of all rows, null rows as 0
unfoldable pub total : List ℕ → ℕ
total [] = 0
total (count ∷ rows) = values_in count + total rows

-- a value's words that cannot be written from an area of so many bytes: id above 65,535, unknown type, aggregate or
-- boolean above 1, a word that should be 0 (a Null's bits, the length of what is no blob), a stretch outside the area
unfoldable pub bad : ℕ → ℕ → ℕ → ℕ → ℕ → ℕ → Bool
bad size id type aggregate bits n =
    65_535 <? id
    || not (known type)
    || 1 <? aggregate
    || (type =? boolean && 1 <? bits)
    || (type =? null_type && bits ≠? 0)
    || (not (blob type) && n ≠? 0)
    || (blob type && size <? (bits + n))

abbrev pub bad_entry : ℕ → List ℕ → ℕ → Bool
bad_entry size values k =
    bad size (id_in values k) (type_in values k) (aggregate_in values k) (bits_in values k) (length_in values k)

-- the first bad entry, else the number of entries
unfoldable pub first_bad : ℕ → List ℕ → ℕ
first_bad size values = first (λ (i : ℕ). bad_entry size values (entry_words * i)) (entries_in values)

-- 18, by its rules 1, 2, 3: entries that are not whole, rows that have not as many values, the first bad entry

abbrev pub not_whole : List ℕ → Line Answer
not_whole values = (length values % entry_words) ≠? 0 ⇒ refuse 18 (1 ∷ entries_in values ∷ [])

abbrev pub bad_value : List ℕ → List ℕ → Line Answer
bad_value area values =
    first_bad (length area) values <? entries_in values ⇒ refuse 18 (3 ∷ first_bad (length area) values ∷ [])

abbrev pub bad_table_lines : List ℕ → List ℕ → List ℕ → List (Line Answer)
bad_table_lines area rows values =
    not_whole values
    ∷ total rows ≠? entries_in values ⇒ refuse 18 (2 ∷ length rows ∷ [])
    ∷ bad_value area values
    ∷ []

-- 10
abbrev pub too_many_rows : List ℕ → Line Answer
too_many_rows rows = max_rows <? length rows ⇒ refuse 10 (length rows ∷ [])

-- Sizes: of a value with its header, of n values, of rows with their words, of all with the row count

abbrev pub size_of : ℕ → ℕ → ℕ
size_of type n = 8 + payload type n

abbrev pub value_size : List ℕ → ℕ → ℕ
value_size values k = size_of (type_in values k) (length_in values k)

unfoldable pub values_size : List ℕ → ℕ → ℕ → ℕ
values_size values zero k = 0
values_size values (suc n) k = value_size values k + values_size values n (k + entry_words)

abbrev pub row_size : List ℕ → ℕ → ℕ → ℕ
row_size values count k = 8 + values_size values (values_in count) k

unfoldable pub rows_size : List ℕ → List ℕ → ℕ → ℕ
rows_size [] values k = 0
rows_size (count ∷ rows) values k = row_size values count k + rows_size rows values (k + entry_words * values_in count)

unfoldable pub rowset_size : List ℕ → List ℕ → ℕ
rowset_size rows values = 8 + rows_size rows values 0

-- The limits, with the size so far

-- 13
abbrev pub too_large : ℕ → Line Answer
too_large size = max_size <? size ⇒ refuse 13 (size ∷ [])

-- at most 2 ^ 32 - 1
abbrev pub capped : ℕ → ℕ
capped n = pick (0xffff_ffff <? n) 0xffff_ffff n

-- a value: 12, then 13
unfoldable pub value_order : ℕ → ℕ → ℕ → List (Line Answer)
value_order type n size =
    (blob type && max_length <? n) ⇒ refuse 12 (capped n ∷ [])
    ∷ too_large (size + size_of type n)
    ∷ []

-- n values
unfoldable pub values_limits : List ℕ → ℕ → ℕ → ℕ → List (Line Answer)
values_limits values zero k size = []
values_limits values (suc n) k size =
    value_order (type_in values k) (length_in values k) size
    ++ values_limits values n (k + entry_words) (size + value_size values k)

-- the word of the row number i: 13, then 11
unfoldable pub count_order : ℕ → ℕ → ℕ → List (Line Answer)
count_order count i size =
    too_large (size + 8)
    ∷ max_values <? values_in count ⇒ refuse 11 (i ∷ count ∷ [])
    ∷ []

-- rows, the first of them being the row number i: each its word, then its values
unfoldable pub rows_limits : List ℕ → List ℕ → ℕ → ℕ → ℕ → List (Line Answer)
rows_limits [] values i k size = []
rows_limits (count ∷ rows) values i k size =
    count_order count i size
    ++ (values_limits values (values_in count) k (size + 8)
    ++ rows_limits rows values (i + 1) (k + entry_words * values_in count) (size + row_size values count k))

-- 10, then the rows behind the row count
abbrev pub limit_lines : List ℕ → List ℕ → List (Line Answer)
limit_lines rows values = too_many_rows rows ∷ rows_limits rows values 0 0 8

-- all but the room
unfoldable pub check_lines : List ℕ → List ℕ → List ℕ → List (Line Answer)
check_lines area rows values = bad_table_lines area rows values ++ limit_lines rows values

-- what `encoded_size` answers: nothing is written, and the size is told
unfoldable pub measuring : List ℕ → List ℕ → List ℕ → Answer
measuring area rows values = decide (check_lines area rows values) (accepted (rowset_size rows values) [])

-- what writing into an output of so many bytes answers: how many are written
unfoldable pub writing : List ℕ → List ℕ → List ℕ → ℕ → Answer
writing area rows values room =
    let size = rowset_size rows values in
    decide (check_lines area rows values ++ room_line Output size room ∷ []) (accepted size [])
