-- What each public function promises, by name; asking for bytes promises wire's `Needs`, a value wire_value's
-- `ReadsValue`. Assumes nothing.
use Rattle.std.specs.Prelude.{ℕ, ◌+◌, List, [], ◌∷◌, Result, Ok, Err}
use Rattle.words.specs.Answer.{Answer, accepted}
use Rattle.words.specs.Statement.{Means}
use Rattle.words.specs.Word.{word}
use Rattle.wire.specs.Need.{needing}
use Rattle.wire.specs.Paper.{paper}
use Rattle.wire.specs.declared.error.WireError.{WireError}
use Rattle.wire_reader.specs.declared.Word.{Word}

-- the word, and where the next read begins
abbrev pub paper_word : Result Word WireError → Answer
paper_word (Ok w) = accepted w.next (w.value ∷ [])
paper_word (Err refusal) = paper refusal

abbrev pub ReadsU64 : List ℕ → ℕ → Result Word WireError → Type 0
ReadsU64 s at r = Means paper_word (needing s at 8 (accepted (at + 8) (word 8 s at ∷ []))) r
