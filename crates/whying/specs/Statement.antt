-- What `why` promises: the whole output over the front of the buffer, or 17 where that has not the room for every line.
-- Assumes nothing.
use Rattle.std.specs.Prelude.{ℕ, List}
use Rattle.why_text.specs.Statement.{Line, Writes}
use Rattle.whying.specs.Output.{output}

abbrev pub Whys : List ℕ → List ℕ → Line → List ℕ → Type 0
Whys s before r after = Writes (output s) before r after
