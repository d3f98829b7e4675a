-- A rowset on the wire, after document 01, "Rowsets" and "Lent tables". First what stands where in the read bytes, then
-- the bytes themselves as one function of the lent tables' entries, which the writer produces. Assumes nothing.
use Rattle.std.specs.Prelude.{ℕ, zero, suc, ◌+◌, ◌-◌, ◌*◌, ◌%◌, Bool, ◌&&◌, ◌||◌, List, [], ◌∷◌, ◌++◌, length, get_or, replicate}
use Rattle.words.specs.Word.{word, bytes_of}
use Rattle.words.specs.Buffer.{stretch}
use Rattle.words.specs.Decide.{pick, ◌<?◌, ◌=?◌}

-- the count of a null row
abbrev pub null_mark : ℕ
null_mark = 0xffff_ffff_ffff_ffff

abbrev pub max_rows : ℕ
max_rows = 5_242_880

abbrev pub max_values : ℕ
max_values = 1_024

abbrev pub max_length : ℕ
max_length = 16_777_216

-- 2 ^ 30
abbrev pub max_size : ℕ
max_size = 1_073_741_824

-- the words of a value's entry in a lent table
abbrev pub entry_words : ℕ
entry_words = 5

-- Types: 2 Null, 3 Int64, 4 Uint64, 5 Double, 6 Boolean, 16 String, 17 Any, 18 Composite

abbrev pub null_type : ℕ
null_type = 2

abbrev pub int64 : ℕ
int64 = 3

abbrev pub uint64 : ℕ
uint64 = 4

abbrev pub double : ℕ
double = 5

abbrev pub boolean : ℕ
boolean = 6

abbrev pub string : ℕ
string = 16

abbrev pub any : ℕ
any = 17

abbrev pub composite : ℕ
composite = 18

-- 3 to 6: the payload is one word
abbrev pub scalar : ℕ → Bool
scalar type = 2 <? type && type <? 7

-- 16 to 18: the payload is the bytes and their padding
abbrev pub blob : ℕ → Bool
blob type = 15 <? type && type <? 19

abbrev pub known : ℕ → Bool
known type = type =? null_type || scalar type || blob type

-- to the next multiple of eight
abbrev pub padding : ℕ → ℕ
padding n = (8 - n % 8) % 8

abbrev pub padded : ℕ → ℕ
padded n = n + padding n

-- how many bytes follow the header of a value of this type and length word; Null has none
unfoldable pub payload : ℕ → ℕ → ℕ
payload type n = pick (blob type) (padded n) (pick (scalar type) 8 0)

-- how many values a row's word stands for: a null row has none
abbrev pub values_in : ℕ → ℕ
values_in count = pick (count =? null_mark) 0 count

-- 1 for any number but 0
abbrev pub flag : ℕ → ℕ
flag n = pick (n =? 0) 0 1

-- The value at `at` of s: its header's fields, where its payload begins, the five words of its entry in a lent table,
-- and where the next begins

abbrev pub id_at : List ℕ → ℕ → ℕ
id_at s at = word 2 s at

abbrev pub type_at : List ℕ → ℕ → ℕ
type_at s at = get_or s (at + 2) 0

abbrev pub aggregate_at : List ℕ → ℕ → ℕ
aggregate_at s at = get_or s (at + 3) 0

abbrev pub length_at : List ℕ → ℕ → ℕ
length_at s at = word 4 s (at + 4)

abbrev pub payload_at : List ℕ → ℕ → ℕ
payload_at s at = payload (type_at s at) (length_at s at)

abbrev pub scalar_at : List ℕ → ℕ → ℕ
scalar_at s at = word 8 s (at + 8)

unfoldable pub next_value : List ℕ → ℕ → ℕ
next_value s at = at + 8 + payload_at s at

-- a scalar's bits: its word, and of a boolean whether the word is 0
abbrev pub bits_of : ℕ → ℕ → ℕ
bits_of type n = pick (type =? boolean) (flag n) n

-- the scalar's bits or the blob's offset
unfoldable pub fourth : List ℕ → ℕ → ℕ
fourth s at = pick (blob (type_at s at)) (at + 8) (pick (scalar (type_at s at)) (bits_of (type_at s at) (scalar_at s at)) 0)

-- the blob's length
unfoldable pub fifth : List ℕ → ℕ → ℕ
fifth s at = pick (blob (type_at s at)) (length_at s at) 0

-- the entry, and what follows it in the table
unfoldable pub entry : List ℕ → ℕ → List ℕ → List ℕ
entry s at more = id_at s at ∷ type_at s at ∷ flag (aggregate_at s at) ∷ fourth s at ∷ fifth s at ∷ more

-- Rows: the n values from `at` on, and the n rows from `at` on

-- where n values end
unfoldable pub next_values : List ℕ → ℕ → ℕ → ℕ
next_values s zero at = at
next_values s (suc n) at = next_values s n (next_value s at)

-- their entries
unfoldable pub entries : List ℕ → ℕ → ℕ → List ℕ
entries s zero at = []
entries s (suc n) at = entry s at (entries s n (next_value s at))

abbrev pub count_at : List ℕ → ℕ → ℕ
count_at s at = word 8 s at

unfoldable pub next_row : List ℕ → ℕ → ℕ
next_row s at = next_values s (values_in (count_at s at)) (at + 8)

-- where n rows end
unfoldable pub next_rows : List ℕ → ℕ → ℕ → ℕ
next_rows s zero at = at
next_rows s (suc n) at = next_rows s n (next_row s at)

-- how many values they have
unfoldable pub value_count : List ℕ → ℕ → ℕ → ℕ
value_count s zero at = 0
value_count s (suc n) at = values_in (count_at s at) + value_count s n (next_row s at)

-- the words of their rows, one for each row, the null rows too
unfoldable pub row_words : List ℕ → ℕ → ℕ → List ℕ
row_words s zero at = []
row_words s (suc n) at = count_at s at ∷ row_words s n (next_row s at)

-- the entries of their values
unfoldable pub value_words : List ℕ → ℕ → ℕ → List ℕ
value_words s zero at = []
value_words s (suc n) at = entries s (values_in (count_at s at)) (at + 8) ++ value_words s n (next_row s at)

-- What is written: the bytes of entries in lent tables, a blob being a stretch of a byte area

-- what follows a value's header: a blob's bytes and zeros, a scalar's word, or nothing
unfoldable pub payload_bytes : List ℕ → ℕ → ℕ → ℕ → List ℕ
payload_bytes area type bits n =
    pick (blob type) (stretch area bits n ++ replicate (padding n) 0)
    (pick (scalar type) (bytes_of 8 bits) [])

-- id (2), type (1), aggregate (1), length (4), then the payload
unfoldable pub value_bytes : List ℕ → ℕ → ℕ → ℕ → ℕ → ℕ → List ℕ
value_bytes area id type aggregate bits n =
    bytes_of 2 id ++ (bytes_of 1 type ++ (bytes_of 1 aggregate ++ (bytes_of 4 n ++ payload_bytes area type bits n)))

-- the value whose entry begins at the word k of the table
abbrev pub entry_bytes : List ℕ → List ℕ → ℕ → List ℕ
entry_bytes area values k =
    value_bytes area (get_or values k 0) (get_or values (k + 1) 0) (get_or values (k + 2) 0) (get_or values (k + 3) 0)
    (get_or values (k + 4) 0)

-- n values from the word k of the table on
unfoldable pub values_bytes : List ℕ → List ℕ → ℕ → ℕ → List ℕ
values_bytes area values zero k = []
values_bytes area values (suc n) k = entry_bytes area values k ++ values_bytes area values n (k + entry_words)

-- a row's word, and its values, whose entries begin at the word k
unfoldable pub row_bytes : List ℕ → List ℕ → ℕ → ℕ → List ℕ
row_bytes area values count k = bytes_of 8 count ++ values_bytes area values (values_in count) k

unfoldable pub rows_bytes : List ℕ → List ℕ → List ℕ → ℕ → List ℕ
rows_bytes area [] values k = []
rows_bytes area (count ∷ rows) values k =
    row_bytes area values count k ++ rows_bytes area rows values (k + entry_words * values_in count)

-- the row count, then the rows
unfoldable pub rowset_bytes : List ℕ → List ℕ → List ℕ → List ℕ
rowset_bytes area rows values = bytes_of 8 (length rows) ++ rows_bytes area rows values 0
