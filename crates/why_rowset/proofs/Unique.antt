-- One result for the statement. Assumes nothing.
use Prim.Native.Nat.{ℕ}
use mathlib.Core.List.{List}
use Rattle.words.specs.Statement.{OneResult}
use Rattle.finding.proofs.Unique.{explains_unique}
use Rattle.why_rowset.specs.Checks.{rowset_checks, ExplainsRowset}

pub explain_unique : (s : List ℕ) → OneResult (ExplainsRowset s)
explain_unique s = explains_unique (rowset_checks s)
