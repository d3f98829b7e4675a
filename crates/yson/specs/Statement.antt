-- What each public function promises, by name, over the input, the result and the lent table at entry and at exit.
-- Assumes nothing.
use Rattle.std.specs.Prelude.{ℕ, ◌/◌, List, ◌≡◌, length, Result}
use Rattle.words.specs.Statement.{Means, Holds}
use Rattle.yson.specs.declared.Fault.{Fault}
use Rattle.yson.specs.declared.YsonError.{YsonError}
use Rattle.yson.specs.declared.YsonError.TheVariants.{Broken}
use Rattle.yson.specs.Reading.{Reading, words_of, checking, listing}
use Rattle.yson.specs.Paper.{paper}

-- the answer of the input's reading
abbrev pub Checks : List ℕ → Result ℕ YsonError → Type 0
Checks s r = (x : Reading s) × Means paper (checking x) r

-- the answer, and the items' words over the table's front; four words are room for an item
abbrev pub Lists : List ℕ → List ℕ → Result ℕ YsonError → List ℕ → Type 0
Lists s before r after =
    (x : Reading s)
    × Means paper (listing x (length before / 4)) r
    × Holds (listing x (length before / 4)) (words_of x) before after

-- the fault as an error
abbrev pub Breaks : Fault → YsonError → Type 0
Breaks fault error = error ≡ Broken fault
