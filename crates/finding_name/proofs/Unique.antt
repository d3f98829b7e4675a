-- One result for the statement: two counts, with the part at exit, that meet it are equal. Assumes nothing.
use Prim.Native.Nat.{ℕ}
use mathlib.Core.Path.{sym, ◌∙◌}
use mathlib.Core.List.{List}
use Rattle.words.specs.Statement.{OneResult}
use Rattle.finding.specs.declared.Field.{Field}
use Rattle.finding_name.specs.Statement.{WritesName}

pub write_name_unique : (field : Field) (before : List ℕ) → OneResult (λ (x : ℕ × List ℕ). WritesName field before x.0 x.1)
write_name_unique field before x x' p q = λ i. ((p.0 ∙ sym q.0) i, (p.1 ∙ sym q.1) i)
