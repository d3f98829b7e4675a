-- What the public functions promise, by name, over the inputs, the result and the output at entry and at exit. Assumes
-- nothing.
use Rattle.std.specs.Prelude.{ℕ, List, length, Result}
use Rattle.words.specs.Statement.{Means, Holds}
use Rattle.error_write.specs.Written.{error_bytes}
use Rattle.error_write.specs.Writing.{measuring, writing}
use Rattle.error_write.specs.Paper.{bytes_paper}
use Rattle.error_tree.specs.declared.refusal.ErrorRefusal.{ErrorRefusal}

-- `error_size`
abbrev pub Measures : List ℕ → List ℕ → List ℕ → Result ℕ ErrorRefusal → Type 0
Measures area errors attributes r = Means bytes_paper (measuring area errors attributes) r

-- `encode_error`: the answer, and where it is no refusal the bytes over the output's front
abbrev pub Encodes : List ℕ → List ℕ → List ℕ → List ℕ → Result ℕ ErrorRefusal → List ℕ → Type 0
Encodes area errors attributes out r out' =
    Means bytes_paper (writing area errors attributes (length out)) r
    × Holds (writing area errors attributes (length out)) (error_bytes area errors attributes) out out'
