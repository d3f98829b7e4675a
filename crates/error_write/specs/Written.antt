-- The written form, one function from two tables over a byte area to bytes, after document 02: code and text always,
-- one dictionary if any, then the inner errors; the shortest varints. Entries are in pre-order with their depths; an
-- error's attributes are all rows with its index, in the table's order. Assumes nothing.
use Rattle.std.specs.Prelude.{ℕ, zero, suc, ◌+◌, ◌-◌, List, [], ◌∷◌, ◌++◌, length}
use Rattle.words.specs.Buffer.{stretch}
use Rattle.words.specs.Decide.{pick, ◌⇒◌, decide, ◌<?◌, ◌=?◌}
use Rattle.varint.specs.Varint.{varint}
use Rattle.error_table.specs.Table.{errors_in, code_in, depth_in, text_in, text_length_in, attributes_in, index_in, key_in, key_length_in, value_in, value_length_in}

-- a field's tag and the varint behind it: eight times the field's number, and 0 for a varint, 2 for bytes
abbrev pub lead : ℕ → ℕ → List ℕ
lead tag n = tag ∷ varint n

abbrev pub delimited : ℕ → List ℕ → List ℕ
delimited tag ws = lead tag (length ws) ++ ws

-- TAttribute: 1 key, 2 value
unfoldable pub attribute_bytes : List ℕ → List ℕ → ℕ → List ℕ
attribute_bytes area attributes k =
    delimited 0x0a (stretch area (key_in attributes k) (key_length_in attributes k))
    ++ delimited 0x12 (stretch area (value_in attributes k) (value_length_in attributes k))

-- the rows with the index i among n rows from the row k on
unfoldable pub rows_of : List ℕ → ℕ → ℕ → ℕ → List ℕ
rows_of attributes i zero k = []
rows_of attributes i (suc n) k =
    let others = rows_of attributes i n (k + 1) in
    pick (index_in attributes k =? i) (k ∷ others) others

abbrev pub all_rows : List ℕ → ℕ → List ℕ
all_rows attributes i = rows_of attributes i (attributes_in attributes) 0

-- TAttributeDictionary: 1 attributes
unfoldable pub entries_bytes : List ℕ → List ℕ → List ℕ → List ℕ
entries_bytes area attributes [] = []
entries_bytes area attributes (k ∷ ks) =
    delimited 0x0a (attribute_bytes area attributes k) ++ entries_bytes area attributes ks

-- one dictionary if any
abbrev pub dictionary_bytes : List ℕ → List ℕ
dictionary_bytes [] = []
dictionary_bytes (w ∷ ws) = delimited 0x1a (w ∷ ws)

-- TError: 1 code, 2 message, 3 attributes of the error number i; its inner errors go behind
unfoldable pub own_bytes : List ℕ → List ℕ → List ℕ → ℕ → List ℕ
own_bytes area errors attributes i =
    lead 0x08 (code_in errors i)
    ++ (delimited 0x12 (stretch area (text_in errors i) (text_length_in errors i))
    ++ dictionary_bytes (entries_bytes area attributes (all_rows attributes i)))

-- 4 inner_errors: those of depth d among n entries from number i on, up to the first that is less deep. Deeper ones
-- belong to the error before them.
unfoldable pub inners_bytes : List ℕ → List ℕ → List ℕ → ℕ → ℕ → ℕ → List ℕ
inners_bytes area errors attributes d zero i = []
inners_bytes area errors attributes d (suc n) i =
    let others = inners_bytes area errors attributes d n (i + 1) in
    let one =
    delimited 0x22 (own_bytes area errors attributes i ++ inners_bytes area errors attributes (d + 1) n (i + 1))
    ++ others in
    decide (depth_in errors i <? d ⇒ [] ∷ d <? depth_in errors i ⇒ others ∷ []) one

-- the outermost error, without tag and length
unfoldable pub error_bytes : List ℕ → List ℕ → List ℕ → List ℕ
error_bytes area errors attributes =
    own_bytes area errors attributes 0 ++ inners_bytes area errors attributes 2 (errors_in errors - 1) 1
