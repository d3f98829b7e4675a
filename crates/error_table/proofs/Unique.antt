-- One result for the statement of the tables' check. Assumes nothing.
use mathlib.Core.Path.{refl, sym, ◌∙◌, ap}
use mathlib.Core.List.{List, []}
use Prim.Native.Nat.{ℕ}
use Rattle.words.specs.Answer.{accepted}
use Rattle.words.specs.Decide.{decide}
use Rattle.words.specs.Statement.{OneResult}
use Rattle.error_tree.proofs.Unique.{paper_told, passes_or_stops}
use Rattle.error_table.specs.Table.{table_order}
use Rattle.error_table.specs.Statement.{ChecksTables}
use Rattle.std.specs.declared.result.Result.TheVariants.{Ok, Err}

pub check_tables_unique : (area errors attributes : List ℕ) → OneResult (ChecksTables area errors attributes)
check_tables_unique area errors attributes (Ok _) (Ok _) p q = refl
check_tables_unique area errors attributes (Ok _) (Err refusal) p q = absurd (passes_or_stops (decide (table_order area errors attributes)) refusal p.1 q)
check_tables_unique area errors attributes (Err refusal) (Ok _) p q = absurd (passes_or_stops (decide (table_order area errors attributes)) refusal q.1 p)
check_tables_unique area errors attributes (Err refusal) (Err refusal') p q = ap Err (paper_told refusal refusal' (sym (p (accepted 0 [])) ∙ q (accepted 0 [])))
