-- What only private contracts cite, and nobody has to believe: an output that is filled piece by piece, each piece by a
-- writer that is lent the rest of it. Assumes nothing.
use Rattle.std.specs.Prelude.{ℕ, ◌≤◌, List, ◌++◌, ◌≡◌, length}
use Rattle.words.specs.Buffer.{over}

-- an output that held `before` and is to hold `whole` over its front holds all but `rest` of it, which goes to `at`
pub record Filling (whole rest before now : List ℕ) (at : ℕ) : Type 0 where
  pub done : List ℕ
  pub joins : done ++ rest ≡ whole
  pub reached : length done ≡ at
  pub fits : length whole ≤ length before
  pub holds : now ≡ over done before
