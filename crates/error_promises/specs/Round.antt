-- Writing errors and reading them back. Document 02, A10: "reading its output gives the errors back, each with its
-- attributes in order, offsets apart". An entry of a table without its offsets is what it says: the bytes in the
-- place of where they stand. Assumes nothing.
use Rattle.std.specs.Prelude.{ℕ, zero, suc, ◌+◌, ◌≤◌, ◌<◌, ◌≡◌, List, [], ◌∷◌, ◌++◌, length, take, Result, Ok}
use Rattle.words.specs.Buffer.{stretch}
use Rattle.words.specs.Decide.{pick, ◌=?◌}
use Rattle.error_table.specs.Table.{errors_in, code_in, depth_in, text_in, text_length_in, attributes_in, index_in, key_in, key_length_in, value_in, value_length_in}
use Rattle.error_read.specs.Statement.{Decodes}
use Rattle.error_tree.specs.declared.refusal.ErrorRefusal.{ErrorRefusal}
use Rattle.error_walk.specs.declared.walk.Counted.{Counted}
use Rattle.error_write.specs.Writing.{most_bytes}
use Rattle.error_write.specs.Statement.{Encodes}

-- an error: its code, its depth, how long its text is and the bytes of it
pub data Error : Type 0 where
  error : (code depth size : ℕ) → (text : List ℕ) → Error

-- an attribute: which error's it is; how long its key is, and the bytes; how long its value is, and the bytes
pub data Row : Type 0 where
  row : (index keySize : ℕ) → (key : List ℕ) → (value_size : ℕ) → (value : List ℕ) → Row

-- the error number i of a table over an area, and the attribute number k
abbrev pub error_in : List ℕ → List ℕ → ℕ → Error
error_in area errors i =
    error (code_in errors i) (depth_in errors i) (text_length_in errors i)
    (stretch area (text_in errors i) (text_length_in errors i))

abbrev pub row_in : List ℕ → List ℕ → ℕ → Row
row_in area attributes k =
    row (index_in attributes k)
    (key_length_in attributes k) (stretch area (key_in attributes k) (key_length_in attributes k))
    (value_length_in attributes k) (stretch area (value_in attributes k) (value_length_in attributes k))

-- what f says of n numbers from i on
unfoldable pub listed : {A : Type 0} → (ℕ → A) → ℕ → ℕ → List A
listed f zero i = []
listed f (suc n) i = f i ∷ listed f n (i + 1)

-- the first n entries
abbrev pub errors_over : List ℕ → List ℕ → ℕ → List Error
errors_over area errors n = listed (error_in area errors) n 0

abbrev pub rows_over : List ℕ → List ℕ → ℕ → List Row
rows_over area attributes n = listed (row_in area attributes) n 0

-- the attributes of the error number i, in their order
unfoldable pub of_error : ℕ → List Row → List Row
of_error i [] = []
of_error i (row index m key n value ∷ others) =
    let rest = of_error i others in
    pick (index =? i) (row index m key n value ∷ rest) rest

-- those of n errors from the number i on: sorted by their error, the order within an error kept
unfoldable pub by_error : ℕ → ℕ → List Row → List Row
by_error zero i rows = []
by_error (suc n) i rows = of_error i rows ++ by_error n (i + 1) rows

-- What `encode_error` wrote, `decode_error` reads into tables with room as it was: as many errors in the same order,
-- each with its code, depth and text, and as many attributes, sorted by their error. (Every lent output is shorter
-- than 2 ^ 63 bytes, so the bound excludes none. When it writes is `ErrorWritesExactly`.)
abbrev pub ErrorRoundTrip : Type 0
ErrorRoundTrip =
    (area errors attributes out out' : List ℕ) (count : ℕ) → length out < most_bytes
    → Encodes area errors attributes out (Ok count) out'
    → (table rows table' rows' : List ℕ) (r : Result Counted ErrorRefusal)
    → errors_in errors ≤ errors_in table → attributes_in attributes ≤ attributes_in rows
    → Decodes (take count out') table rows r table' rows'
    → (r ≡ Ok record { errors = errors_in errors; attributes = attributes_in attributes })
    × (errors_over (take count out') table' (errors_in errors) ≡ errors_over area errors (errors_in errors))
    × (rows_over (take count out') rows' (attributes_in attributes)
    ≡ by_error (errors_in errors) 0 (rows_over area attributes (attributes_in attributes)))

-- so sorted, attributes that stood in the errors' order stand as they did
abbrev pub SortedComeBack : Type 0
SortedComeBack =
    (area attributes : List ℕ) (n m : ℕ) → ((k : ℕ) → k < m → index_in attributes k < n)
    → ((k : ℕ) → k + 1 < m → index_in attributes k ≤ index_in attributes (k + 1))
    → by_error n 0 (rows_over area attributes m) ≡ rows_over area attributes m
