-- What the private stages promise, one to the next. Nothing here needs to be believed. Assumes nothing.
use Rattle.std.specs.Prelude.{ℕ, ◌+◌, ◌-◌, ◌<◌, ◌≤◌, ◌≡◌, Bool, true, false, List, [], ◌∷◌, length, Result, Ok, Err}
use Rattle.words.specs.Answer.{Answer}
use Rattle.words.specs.Buffer.{over}
use Rattle.words.specs.Decide.{pick, decide, ◌=?◌}
use Rattle.varint.specs.Varint.{varint}
use Rattle.error_tree.specs.Paper.{paper}
use Rattle.error_table.specs.Table.{code_in, text_length_in, attributes_in, index_in, key_length_in, value_length_in, table_order}
use Rattle.error_table.specs.Statement.{Sound}
use Rattle.error_write.specs.Written.{delimited, attribute_bytes, rows_of, all_rows}
use Rattle.error_write.specs.Writing.{needed}
use Rattle.error_tree.specs.declared.refusal.ErrorRefusal.{ErrorRefusal}

-- the rows from..till are all that have the index i
pub record Covers (attributes : List ℕ) (i from till : ℕ) : Type 0 where
  pub ordered : from ≤ till
  pub within : till ≤ attributes_in attributes
  pub all : rows_of attributes i (till - from) from ≡ all_rows attributes i

-- Sizes of the written form, from the tables' lengths alone

abbrev pub lead_size : ℕ → ℕ
lead_size n = 1 + length (varint n)

abbrev pub delimited_size : ℕ → ℕ
delimited_size n = lead_size n + n

abbrev pub attribute_size : List ℕ → ℕ → ℕ
attribute_size attributes k = delimited_size (key_length_in attributes k) + delimited_size (value_length_in attributes k)

abbrev pub row_size : List ℕ → ℕ → ℕ → ℕ
row_size attributes i k = pick (index_in attributes k =? i) (delimited_size (attribute_size attributes k)) 0

unfoldable pub entries_size : List ℕ → List ℕ → ℕ
entries_size attributes [] = 0
entries_size attributes (k ∷ ks) = delimited_size (attribute_size attributes k) + entries_size attributes ks

abbrev pub dictionary_size : ℕ → ℕ
dictionary_size n = pick (n =? 0) 0 (delimited_size n)

-- the error number i, its dictionary holding so many bytes
abbrev pub own_size : List ℕ → ℕ → ℕ → ℕ
own_size errors i entries = lead_size (code_in errors i) + delimited_size (text_length_in errors i) + dictionary_size entries

-- where no rule of 18 is broken the tables are sound and this is their size; else the refusal, whatever follows
abbrev pub Sizes : List ℕ → List ℕ → List ℕ → Result ℕ ErrorRefusal → Type 0
Sizes area errors attributes (Ok n) =
    (n ≡ needed area errors attributes) × Sound area errors attributes
    × ((rest : Answer) → decide (table_order area errors attributes) rest ≡ rest)
Sizes area errors attributes (Err refusal) =
    (rest : Answer) → decide (table_order area errors attributes) rest ≡ paper refusal

-- no row has a smaller index than one before it
abbrev pub Sorted : List ℕ → Type 0
Sorted attributes = (k : ℕ) → k + 1 < attributes_in attributes → index_in attributes k ≤ index_in attributes (k + 1)

abbrev pub TellsSorted : List ℕ → Bool → Type 0
TellsSorted attributes true = Sorted attributes
TellsSorted attributes false = Unit {0}

-- the rows of the errors before the number i end at till: all rows, or, where they are sorted, those with an index
-- below i
abbrev pub Pending : List ℕ → Bool → ℕ → ℕ → Type 0
Pending attributes true i till =
    Sorted attributes × (till ≤ attributes_in attributes)
    × ((k : ℕ) → till ≤ k → k < attributes_in attributes → i ≤ index_in attributes k)
Pending attributes false i till = till ≡ attributes_in attributes

-- those of the number i begin at `from`
abbrev pub Runs : List ℕ → Bool → ℕ → ℕ → ℕ → Type 0
Runs attributes sorted i from till = Covers attributes i from till × Pending attributes sorted i (pick sorted from till)

-- an output that held `before` holds ws over its front, and they are r bytes
abbrev pub Puts : List ℕ → List ℕ → List ℕ → ℕ → Type 0
Puts ws before after r = (r ≡ length ws) × (after ≡ over ws before)

-- the row k, in the dictionary of the error number i
abbrev pub row_bytes : List ℕ → List ℕ → ℕ → ℕ → List ℕ
row_bytes area attributes i k = pick (index_in attributes k =? i) (delimited 0x0a (attribute_bytes area attributes k)) []
