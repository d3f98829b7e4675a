-- The text that a GUID prints, after document 01, "GUID text". Assumes nothing.
use Rattle.std.specs.Prelude.{ℕ, List, [], ◌∷◌, length}
use Rattle.numerals.specs.Statement.{hex}
use Rattle.words.specs.Decide.{decide}
use Rattle.words.specs.Answer.{Answer, accepted}
use Rattle.words.specs.Paper.{room_line}
use Rattle.words.specs.declared.outcome.Room.TheVariants.{Output}
use Rattle.guid.specs.declared.Guid.{Guid}
use Rattle.guid_text.specs.Fields.{between}

-- w3-w2-w1-w0
unfoldable pub text_of : Guid → List ℕ
text_of g = between (hex g.w3 ∷ hex g.w2 ∷ hex g.w1 ∷ hex g.w0 ∷ [])

-- the text into so much room: how many bytes, or 17 for the output
abbrev pub printing : Guid → ℕ → Answer
printing g room =
    decide (room_line Output (length (text_of g)) room ∷ []) (accepted (length (text_of g)) [])
