-- What `encoded_size` and `first_bad` promise, by name. (The map of answers promises words' `Tells` of
-- `paper_measured`.) Assumes nothing.
use Rattle.std.specs.Prelude.{ℕ, List, ◌≡◌, length, Result}
use Rattle.words.specs.Statement.{Means}
use Rattle.wire.specs.declared.error.WireError.{WireError}
use Rattle.wire_check.specs.Writing.{first_bad, measuring}
use Rattle.wire_check.specs.Paper.{paper_measured}

abbrev pub Measures : List ℕ → List ℕ → List ℕ → Result ℕ WireError → Type 0
Measures area rows values r = Means paper_measured (measuring area rows values) r

-- the first bad entry, else the number of entries
abbrev pub FindsBad : List ℕ → List ℕ → ℕ → Type 0
FindsBad area values r = r ≡ first_bad (length area) values
