-- What writing a line promises, and what its answer means in document 01's terms. Assumes nothing.
use Rattle.std.specs.Prelude.{ℕ, ◌≤◌, List, [], ◌∷◌, length, Result, Ok, Err}
use Rattle.words.specs.Answer.{Answer, accepted, refuse}
use Rattle.words.specs.Decide.{decide}
use Rattle.words.specs.Paper.{no_room_values, room_line}
use Rattle.words.specs.Statement.{Means, Holds}
use Rattle.words.specs.declared.outcome.NoRoom.{NoRoom}
use Rattle.words.specs.declared.outcome.Room.TheVariants.{Output}
use Rattle.finding.specs.Meaning.{meaning}
use Rattle.finding.specs.declared.Finding.{Finding}
use Rattle.why_text.specs.Text.{line_of, line_room}

-- how many bytes of text were written, or 17
abbrev pub Line : Type 0
Line = Result ℕ NoRoom

abbrev pub paper : Line → Answer
paper (Ok count) = accepted count []
paper (Err short) = refuse 17 (no_room_values short)

-- the answer to a text and an output buffer of so many bytes
abbrev pub written : List ℕ → ℕ → Answer
written ws given = decide (room_line Output line_room given ∷ []) (accepted (length ws) [])

-- writing this text answers r, and the buffer that held `before` holds it over its front
abbrev pub Writes : List ℕ → List ℕ → Line → List ℕ → Type 0
Writes ws before r after =
    Means paper (written ws (length before)) r × Holds (written ws (length before)) ws before after

abbrev pub WritesLine : Finding → List ℕ → Line → List ℕ → Type 0
WritesLine finding before r after = Writes (line_of (meaning finding)) before r after

-- what a caller goes by: the text lies in its buffer
abbrev pub Fits : List ℕ → Line → Type 0
Fits before (Ok count) = count ≤ length before
Fits before (Err short) = Unit {0}
