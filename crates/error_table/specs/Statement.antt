-- What `check_tables` promises, by name. Assumes nothing.
use Rattle.std.specs.Prelude.{ℕ, ◌*◌, ◌<◌, ◌≡◌, false, List, length, Result, Ok, Err}
use Rattle.words.specs.Answer.{Answer}
use Rattle.words.specs.Decide.{decide}
use Rattle.error_tree.specs.Reading.{error_entry, attribute_entry}
use Rattle.error_tree.specs.Paper.{paper}
use Rattle.error_table.specs.Table.{errors_in, attributes_in, bad_error, bad_attribute, table_order}
use Rattle.error_tree.specs.declared.refusal.ErrorRefusal.{ErrorRefusal}

-- tables of whole entries, at least one of them an error, none of them bad
pub record Sound (area errors attributes : List ℕ) : Type 0 where
  pub whole_errors : length errors ≡ error_entry * errors_in errors
  pub whole_attributes : length attributes ≡ attribute_entry * attributes_in attributes
  pub some : 0 < errors_in errors
  pub good_error : (i : ℕ) → i < errors_in errors → bad_error (length area) errors i ≡ false
  pub good_attribute : (k : ℕ) → k < attributes_in attributes
      → bad_attribute (length area) (errors_in errors) attributes k ≡ false

-- where no rule of 18 is broken the tables are sound, and what follows decides; else the refusal, whatever follows
abbrev pub ChecksTables : List ℕ → List ℕ → List ℕ → Result (Unit {0}) ErrorRefusal → Type 0
ChecksTables area errors attributes (Ok _) =
    Sound area errors attributes × ((rest : Answer) → decide (table_order area errors attributes) rest ≡ rest)
ChecksTables area errors attributes (Err refusal) =
    (rest : Answer) → decide (table_order area errors attributes) rest ≡ paper refusal
