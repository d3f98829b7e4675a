-- What `decode_error` answers in document 02's terms. Assumes nothing.
use Rattle.std.specs.Prelude.{[], ◌∷◌, Result, Ok, Err}
use Rattle.words.specs.Answer.{Answer, accepted}
use Rattle.error_tree.specs.Paper.{paper}
use Rattle.error_tree.specs.declared.refusal.ErrorRefusal.{ErrorRefusal}
use Rattle.error_walk.specs.declared.walk.Counted.{Counted}

-- how many errors and attributes were read, or the refusal
abbrev pub decoded_paper : Result Counted ErrorRefusal → Answer
decoded_paper (Ok c) = accepted 0 (c.errors ∷ c.attributes ∷ [])
decoded_paper (Err refusal) = paper refusal
