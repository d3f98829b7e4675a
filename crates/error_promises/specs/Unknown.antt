-- Fields that a message does not know are skipped (document 02, A10): a message with unknown fields put between reads
-- alike, offsets apart. What "put between" means is said field by field, over two inputs, for an error, its
-- dictionaries, their attributes and its inner errors. Assumes nothing.
use Rattle.std.specs.Prelude.{ℕ, zero, suc, ◌<◌, ◌≤◌, ◌≡◌, true, List, ◌++◌, length, Result, Ok}
use Rattle.words.specs.Buffer.{stretch}
use Rattle.field.specs.Field.{number_at, value_at, content_at, stop_at}
use Rattle.error_tree.specs.Message.{error_fields, dictionary_fields, attribute_fields, whole_in}
use Rattle.error_tree.specs.Tree.{levels}
use Rattle.error_table.specs.Table.{errors_in, attributes_in}
use Rattle.error_read.specs.Statement.{Decodes}
use Rattle.error_tree.specs.declared.refusal.ErrorRefusal.{ErrorRefusal}
use Rattle.error_walk.specs.declared.walk.Counted.{Counted}
use Rattle.error_promises.specs.Form.{WellFormed}
use Rattle.error_promises.specs.Round.{errors_over, rows_over}

-- The message of t from a place on is that of s from a place on, with fields put between that it does not know: both
-- end; or such a field stands in t, whole, of any of the four wire types; or both have a field of one number that
-- says the same in both.
pub data Between (known : ℕ) (Same : ℕ → ℕ → Type 0) (s : List ℕ) (end : ℕ) (t : List ℕ) (end' : ℕ)
    : ℕ → ℕ → Type 0 where
  ended : {at at' : ℕ} → end ≤ at → end' ≤ at' → Between known Same s end t end' at at'
  put : {at at' : ℕ} → whole_in known t at' end' ≡ true → known < number_at t at'
      → Between known Same s end t end' at (stop_at t at') → Between known Same s end t end' at at'
  kept : {at at' : ℕ} → whole_in known s at end ≡ true → whole_in known t at' end' ≡ true
      → number_at t at' ≡ number_at s at → Same at at' → Between known Same s end t end' (stop_at s at) (stop_at t at')
      → Between known Same s end t end' at at'

-- The two fields hold the same bytes, or such messages

abbrev pub SameBytes : List ℕ → List ℕ → ℕ → ℕ → Type 0
SameBytes s t at at' =
    (value_at s at ≡ value_at t at')
    × (stretch s (content_at s at) (value_at s at) ≡ stretch t (content_at t at') (value_at t at'))

abbrev pub HeldBetween : ℕ → (ℕ → ℕ → Type 0) → List ℕ → List ℕ → ℕ → ℕ → Type 0
HeldBetween known Same s t at at' =
    Between known Same s (stop_at s at) t (stop_at t at') (content_at s at) (content_at t at')

-- TAttribute: 1 key, 2 value
abbrev pub SamePart : List ℕ → List ℕ → ℕ → ℕ → Type 0
SamePart s t at at' = number_at s at ≤ attribute_fields → SameBytes s t at at'

-- TAttributeDictionary: 1 attributes
abbrev pub SameEntry : List ℕ → List ℕ → ℕ → ℕ → Type 0
SameEntry s t at at' = number_at s at ≡ 1 → HeldBetween attribute_fields (SamePart s t) s t at at'

-- TError: 1 code, 2 message, 3 attributes; 4 inner errors, where so many levels are left
abbrev pub SameOwn : List ℕ → List ℕ → ℕ → ℕ → Type 0
SameOwn s t at at' =
    (number_at s at ≡ 1 → value_at s at ≡ value_at t at') × (number_at s at ≡ 2 → SameBytes s t at at')
    × (number_at s at ≡ 3 → HeldBetween dictionary_fields (SameEntry s t) s t at at')

unfoldable pub SameField : ℕ → List ℕ → List ℕ → ℕ → ℕ → Type 0
SameField zero s t at at' = SameOwn s t at at' × (number_at s at ≡ 4 → ⊥)
SameField (suc left) s t at at' =
    SameOwn s t at at' × (number_at s at ≡ 4 → HeldBetween error_fields (SameField left s t) s t at at')

-- t is s with unknown fields put between
abbrev pub PutBetween : List ℕ → List ℕ → Type 0
PutBetween s t = Between error_fields (SameField levels s t) s (length s) t (length t) 0 0

-- what was read of s is read of t, into tables with room
abbrev pub UnknownFieldsSkipped : Type 0
UnknownFieldsSkipped =
    (s t : List ℕ) → PutBetween s t
    → (table rows table' rows' : List ℕ) (c : Counted) → Decodes s table rows (Ok c) table' rows'
    → (other others other' others' : List ℕ) (r : Result Counted ErrorRefusal) → c.errors ≤ errors_in other
    → c.attributes ≤ attributes_in others → Decodes t other others r other' others'
    → (r ≡ Ok c) × (errors_over t other' c.errors ≡ errors_over s table' c.errors)
    × (rows_over t others' c.attributes ≡ rows_over s rows' c.attributes)

-- The same of bytes, in the outermost error: the bytes of one unknown field put where a field begins or the input
-- ends. (What results is well formed, so that more can be put.)

-- whole fields of s from a place on lead to `cut`
pub data Leads (known : ℕ) (s : List ℕ) (cut : ℕ) : ℕ → Type 0 where
  there : {at : ℕ} → at ≡ cut → Leads known s cut at
  on : {at : ℕ} → whole_in known s at (length s) ≡ true → Leads known s cut (stop_at s at) → Leads known s cut at

-- the bytes u are one whole field that an error does not know
pub record UnknownField (u : List ℕ) : Type 0 where
  pub whole : whole_in error_fields u 0 (length u) ≡ true
  pub all : stop_at u 0 ≡ length u
  pub high : error_fields < number_at u 0

abbrev pub BytesPutBetween : Type 0
BytesPutBetween =
    (a u b : List ℕ) → WellFormed (a ++ b) → Leads error_fields (a ++ b) (length a) 0 → UnknownField u
    → PutBetween (a ++ b) (a ++ (u ++ b))
