-- The promises of reading and writing errors: what is accepted and what is written, that a refusal changes nothing,
-- which field counts. Assumes nothing.
use Rattle.std.specs.Prelude.{ℕ, ◌≤◌, ◌/◌, ◌%◌, ◌<◌, ◌≡◌, length, get_or, Result, Ok, Err}
use mathlib.Core.List.{List, ◌∷◌, ◌++◌, Memᴰ}
use Rattle.words.specs.Decide.{Silent}
use Rattle.field.specs.Field.{number_at, value_at, content_at}
use Rattle.error_tree.specs.Message.{error_fields, fields, latest}
use Rattle.error_tree.specs.Tree.{Parts, tree, error_count, attribute_count, parts_with}
use Rattle.error_tree.specs.Reading.{error_entry, attribute_entry}
use Rattle.error_tree.specs.declared.refusal.ErrorRefusal.{ErrorRefusal}
use Rattle.error_read.specs.Statement.{Decodes}
use Rattle.error_walk.specs.declared.walk.Counted.{Counted}
use Rattle.error_table.specs.Table.{table_order}
use Rattle.error_write.specs.Writing.{needed}
use Rattle.error_write.specs.Statement.{Encodes}
use Rattle.error_promises.specs.Form.{WellFormed}

-- the tables hold the errors and the attributes
pub record Roomy (s errors attributes : List ℕ) : Type 0 where
  pub errors_fit : error_count (tree s) ≤ length errors / error_entry
  pub attributes_fit : attribute_count (tree s) ≤ length attributes / attribute_entry

-- `decode_error` reads exactly the inputs that are a TError, into tables that hold it
abbrev pub ErrorAcceptsExactly : Type 0
ErrorAcceptsExactly =
    (s errors attributes errors' attributes' : List ℕ) (r : Result Counted ErrorRefusal)
    → Decodes s errors attributes r errors' attributes'
    → (WellFormed s → Roomy s errors attributes
    → r ≡ Ok record { errors = error_count (tree s); attributes = attribute_count (tree s) })
    × ((c : Counted) → r ≡ Ok c
    → WellFormed s × Roomy s errors attributes × (c.errors ≡ error_count (tree s))
    × (c.attributes ≡ attribute_count (tree s)))

-- `encode_error` writes exactly where no rule of 18 is broken and the output has the room, and tells how many bytes
abbrev pub ErrorWritesExactly : Type 0
ErrorWritesExactly =
    (area errors attributes out out' : List ℕ) (r : Result ℕ ErrorRefusal) → Encodes area errors attributes out r out'
    → (Silent (table_order area errors attributes) → needed area errors attributes ≤ length out
    → r ≡ Ok (needed area errors attributes))
    × ((n : ℕ) → r ≡ Ok n
    → Silent (table_order area errors attributes) × (needed area errors attributes ≤ length out)
    × (n ≡ needed area errors attributes))

-- a refusal changes neither table
abbrev pub ErrorTablesKeep : Type 0
ErrorTablesKeep =
    (s errors attributes errors' attributes' : List ℕ) (refusal : ErrorRefusal)
    → Decodes s errors attributes (Err refusal) errors' attributes'
    → (errors' ≡ errors) × (attributes' ≡ attributes)

-- a refusal leaves the output as it was
abbrev pub ErrorOutputKeeps : Type 0
ErrorOutputKeeps =
    (area errors attributes out out' : List ℕ) (refusal : ErrorRefusal)
    → Encodes area errors attributes out (Err refusal) out' → out' ≡ out

-- of a repeated scalar field the last one counts: whatever stands before it, and behind it no other of its number
abbrev pub LastCounts : Type 0
LastCounts =
    (f : ℕ → ℕ) (number : ℕ) (s fs gs : List ℕ) (at d : ℕ) → number_at s at ≡ number
    → ((g : ℕ) → Memᴰ g gs → number_at s g ≡ number → ⊥)
    → latest f number s (fs ++ (at ∷ gs)) d ≡ f at

-- So of what `decode_error` stores of the outermost error, which is the first entry: the last code, its low 32 bits,
-- and where the last text stands and how long it is
abbrev pub LastIsStored : Type 0
LastIsStored =
    (s errors attributes errors' attributes' : List ℕ) (c : Counted)
    → Decodes s errors attributes (Ok c) errors' attributes'
    → (fs gs : List ℕ) (at : ℕ) → fields error_fields s 0 (length s) ≡ fs ++ (at ∷ gs)
    → ((g : ℕ) → Memᴰ g gs → number_at s g ≡ number_at s at → ⊥)
    → (number_at s at ≡ 1 → get_or errors' 0 0 ≡ value_at s at % 0x1_0000_0000)
    × (number_at s at ≡ 2 → (get_or errors' 2 0 ≡ content_at s at) × (get_or errors' 3 0 ≡ value_at s at))

-- a field that an error does not know adds nothing to it, wherever it stands among the others
abbrev pub UnknownAddsNothing : Type 0
UnknownAddsNothing =
    (s fs gs : List ℕ) (at : ℕ) → error_fields < number_at s at
    → ((deeper : ℕ → Parts → Parts) → parts_with deeper s (fs ++ (at ∷ gs)) ≡ parts_with deeper s (fs ++ gs))
    × ((f : ℕ → ℕ) (number d : ℕ) → number ≤ error_fields
    → latest f number s (fs ++ (at ∷ gs)) d ≡ latest f number s (fs ++ gs) d)
