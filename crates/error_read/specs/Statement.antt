-- What `decode_error` promises, by name, over the input, the result and the lent tables at entry and at exit. Assumes
-- nothing.
use Rattle.std.specs.Prelude.{ℕ, List, length, Result}
use Rattle.words.specs.Statement.{Means, Holds}
use Rattle.error_tree.specs.Tree.{tree, error_words, attribute_words}
use Rattle.error_tree.specs.Reading.{reading}
use Rattle.error_read.specs.Paper.{decoded_paper}
use Rattle.error_tree.specs.declared.refusal.ErrorRefusal.{ErrorRefusal}
use Rattle.error_walk.specs.declared.walk.Counted.{Counted}

-- the answer, and where it is no refusal the errors over the front of one table and the attributes over the other's
abbrev pub Decodes : List ℕ → List ℕ → List ℕ → Result Counted ErrorRefusal → List ℕ → List ℕ → Type 0
Decodes s errors attributes r errors' attributes' =
    Means decoded_paper (reading s (length errors) (length attributes)) r
    × Holds (reading s (length errors) (length attributes)) (error_words 1 (tree s)) errors errors'
    × Holds (reading s (length errors) (length attributes)) (attribute_words 0 0 (tree s)) attributes attributes'
