-- What `encode_rowset` promises, by name. (The map of answers is `outcome` of `wire_check`.) Assumes nothing.
use Rattle.std.specs.Prelude.{ℕ, List, length, Result}
use Rattle.words.specs.Statement.{Means, Holds}
use Rattle.wire.specs.Layout.{rowset_bytes}
use Rattle.wire.specs.declared.error.WireError.{WireError}
use Rattle.wire_check.specs.Writing.{writing}
use Rattle.wire_write.specs.Paper.{paper_encoded}

-- lent an output that held `before` and holds `after`
abbrev pub Encodes : List ℕ → List ℕ → List ℕ → List ℕ → Result ℕ WireError → List ℕ → Type 0
Encodes area rows values before r after =
    let answer = writing area rows values (length before) in
    Means paper_encoded answer r × Holds answer (rowset_bytes area rows values) before after
