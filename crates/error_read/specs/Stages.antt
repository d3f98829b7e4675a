-- What the private stages of the second walk promise, one to the next. Nothing here needs to be believed. Assumes
-- nothing.
use Rattle.std.specs.Prelude.{ℕ, ◌+◌, ◌*◌, ◌≤◌, ◌≡◌, List, [], ◌∷◌, ◌++◌, length}
use Rattle.std.proofs.lemmas.List.Edits.{sets}
use Rattle.words.specs.Decide.{pick, ◌=?◌}
use Rattle.field.specs.Field.{number_at}
use Rattle.error_tree.specs.Message.{attribute_fields, inside}
use Rattle.error_tree.specs.Reading.{error_entry, attribute_entry}
use Rattle.error_tree.specs.Tree.{Parts, none, attribute_of, error_count, attribute_count, error_words, attribute_words, place_of, length_of, tree}
use Rattle.error_read.specs.declared.fill.Own.{Own}
use Rattle.error_read.specs.declared.fill.Filled.{Filled}

-- the words of the attribute in a field of a dictionary of the error number i
abbrev pub entry_words : ℕ → List ℕ → ℕ → List ℕ
entry_words i s at = pick (number_at s at =? 1) (attribute_words i 0 (attribute_of s (inside attribute_fields s at) none)) []

unfoldable pub dictionary_words : ℕ → List ℕ → List ℕ → List ℕ
dictionary_words i s [] = []
dictionary_words i s (at ∷ others) = entry_words i s at ++ dictionary_words i s others

-- a table that held xs holds ws from k on, and the next entry goes to `next`
abbrev pub Stored : List ℕ → List ℕ → ℕ → List ℕ → ℕ → Type 0
Stored ws xs k xs' next = (xs' ≡ sets xs k ws) × (next ≡ k + length ws)

-- the last of the fields numbered 1 and 2: each one's varint, and where what comes behind that begins
pub record Scanned (s fs : List ℕ) (r : Own) : Type 0 where
  pub value1 : r.value1 ≡ length_of 1 s fs
  pub place1 : r.place1 ≡ place_of 1 s fs
  pub value2 : r.value2 ≡ length_of 2 s fs
  pub place2 : r.place2 ≡ place_of 2 s fs

-- What a part of the tree adds to the two tables: its errors behind those before it, and its attributes
pub record Fills (p : Parts) (depth index next k : ℕ) (errors attributes errors' attributes' : List ℕ) (r : Filled)
    : Type 0 where
  pub errors_are : errors' ≡ sets errors (error_entry * next) (error_words depth p)
  pub attributes_are : attributes' ≡ sets attributes k (attribute_words index next p)
  pub next_is : r.next ≡ next + error_count p
  pub row_is : r.row ≡ k + attribute_entry * attribute_count p

pub record Room (p : Parts) (next k : ℕ) (errors attributes : List ℕ) : Type 0 where
  pub errors_fit : error_entry * (next + error_count p) ≤ length errors
  pub attributes_fit : k + attribute_entry * attribute_count p ≤ length attributes

abbrev pub FillsAll : List ℕ → List ℕ → List ℕ → List ℕ → List ℕ → Type 0
FillsAll s errors attributes errors' attributes' =
    (errors' ≡ sets errors 0 (error_words 1 (tree s))) × (attributes' ≡ sets attributes 0 (attribute_words 0 0 (tree s)))
