-- What `count_error` promises, by name. Assumes nothing.
use Rattle.std.specs.Prelude.{◌≡◌, List, ℕ, length, Result, Ok, Err}
use Rattle.words.specs.Answer.{Answer}
use Rattle.error_tree.specs.Tree.{levels, tree, error_count, attribute_count}
use Rattle.error_tree.specs.Reading.{check_error}
use Rattle.error_tree.specs.Paper.{paper}
use Rattle.error_tree.specs.declared.refusal.ErrorRefusal.{ErrorRefusal}
use Rattle.error_walk.specs.declared.walk.Counted.{Counted}

-- where no check of the message holds, how many errors and attributes there are, and what follows the checks decides;
-- else the refusal, whatever follows
abbrev pub Counts : List ℕ → Result Counted ErrorRefusal → Type 0
Counts s (Ok c) =
    (c.errors ≡ error_count (tree s)) × (c.attributes ≡ attribute_count (tree s))
    × ((rest : Answer) → check_error levels s 0 (length s) rest ≡ rest)
Counts s (Err refusal) = (rest : Answer) → check_error levels s 0 (length s) rest ≡ paper refusal
