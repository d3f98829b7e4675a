-- What `list` promises, and what its answer means in document 01's terms. Assumes nothing.
use Rattle.std.specs.Prelude.{ℕ, List, [], length, Result, Ok, Err}
use Rattle.words.specs.Answer.{Answer, accepted, refuse}
use Rattle.words.specs.Paper.{no_room_values}
use Rattle.words.specs.Statement.{Means, Holds}
use Rattle.words.specs.declared.outcome.NoRoom.{NoRoom}
use Rattle.listing.specs.Output.{output, listing}

-- how many bytes of text were written, or 17
abbrev pub Listed : Type 0
Listed = Result ℕ NoRoom

abbrev pub paper : Listed → Answer
paper (Ok count) = accepted count []
paper (Err short) = refuse 17 (no_room_values short)

-- listing s answers r, and the buffer that held `before` holds the whole output over its front
abbrev pub Lists : List ℕ → List ℕ → Listed → List ℕ → Type 0
Lists s before r after =
    Means paper (listing s (length before)) r × Holds (listing s (length before)) (output s) before after
