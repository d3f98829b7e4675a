-- What each exported function on error messages promises, by name: the answer, the errors over the front of one table
-- and the attributes over the other's. Assumes nothing.
use Rattle.std.specs.Prelude.{ℕ, List, length}
use Rattle.words.specs.Paper.{Tells}
use Rattle.words.specs.Statement.{Holds}
use Rattle.words.specs.declared.outcome.Outcome.{Outcome}
use Rattle.error_tree.specs.Tree.{tree, error_words, attribute_words}
use Rattle.error_tree.specs.Reading as error
use Rattle.error_write.specs.Written.{error_bytes}
use Rattle.error_write.specs.Writing as errorWriting

abbrev pub DecodesError : List ℕ → List ℕ → List ℕ → Outcome → List ℕ → List ℕ → Type 0
DecodesError s errors attributes r errors' attributes' =
    let answer = error.reading s (length errors) (length attributes) in
    Tells answer r
    × Holds answer (error_words 1 (tree s)) errors errors'
    × Holds answer (attribute_words 0 0 (tree s)) attributes attributes'

abbrev pub MeasuresError : List ℕ → List ℕ → List ℕ → Outcome → Type 0
MeasuresError area errors attributes r = Tells (errorWriting.measuring area errors attributes) r

abbrev pub EncodesError : List ℕ → List ℕ → List ℕ → List ℕ → Outcome → List ℕ → Type 0
EncodesError area errors attributes before r after =
    let answer = errorWriting.writing area errors attributes (length before) in
    Tells answer r × Holds answer (error_bytes area errors attributes) before after
