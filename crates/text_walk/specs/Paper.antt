-- What the walk answers in the documents' terms. Assumes nothing.
use Rattle.std.specs.Prelude.{[], ◌∷◌, Result, Ok, Err}
use Rattle.words.specs.Answer.{Answer, accepted, refuse}
use Rattle.wire.specs.Paper.{paper}
use Rattle.text_walk.specs.declared.error.TextError.{TextError}
use Rattle.text_walk.specs.declared.error.TextError.TheVariants.{BadText, Limit}
use Rattle.text_walk.specs.declared.walk.Walked.{Walked}

-- "19 BadText (place)", or a refusal of a rowset
abbrev pub text_paper : TextError → Answer
text_paper (BadText place) = refuse 19 (place ∷ [])
text_paper (Limit refusal) = paper refusal

-- the bytes of the area; rows and values
abbrev pub walked_paper : Result Walked TextError → Answer
walked_paper (Ok walked) = accepted walked.bytes (walked.rows ∷ walked.values ∷ [])
walked_paper (Err refusal) = text_paper refusal
