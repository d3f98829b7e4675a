-- One result for the statement: two answers of `why`, with the text at exit, that meet it are equal. Assumes nothing.
use Prim.Native.Nat.{ℕ}
use mathlib.Core.List.{List}
use Rattle.words.specs.Statement.{OneResult}
use Rattle.why_text.specs.Statement.{Line}
use Rattle.why_text.proofs.Unique.{writes_unique}
use Rattle.whying.specs.Output.{output}
use Rattle.whying.specs.Statement.{Whys}

pub why_unique : (s before : List ℕ) → OneResult (λ (x : Line × List ℕ). Whys s before x.0 x.1)
why_unique s before = writes_unique (output s) before
