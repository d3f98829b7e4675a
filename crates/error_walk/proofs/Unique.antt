-- One result for the statement of the first walk. Assumes nothing.
use mathlib.Core.Path.{sym, ◌∙◌, ap}
use mathlib.Core.List.{List, []}
use Prim.Native.Nat.{ℕ}
use lib.ListN.{length}
use Rattle.words.specs.Answer.{accepted}
use Rattle.words.specs.Statement.{OneResult}
use Rattle.error_tree.specs.Tree.{levels}
use Rattle.error_tree.specs.Reading.{check_error}
use Rattle.error_tree.proofs.Unique.{paper_told, passes_or_stops}
use Rattle.error_walk.specs.Statement.{Counts}
use Rattle.std.specs.declared.result.Result.TheVariants.{Ok, Err}

pub count_error_unique : (s : List ℕ) → OneResult (Counts s)
count_error_unique s (Ok c) (Ok d) p q = λ i. Ok record { errors = (p.0 ∙ sym q.0) i; attributes = (p.1 ∙ sym q.1) i }
count_error_unique s (Ok c) (Err refusal) p q = absurd (passes_or_stops (check_error levels s 0 (length s)) refusal p.2 q)
count_error_unique s (Err refusal) (Ok c) p q = absurd (passes_or_stops (check_error levels s 0 (length s)) refusal q.2 p)
count_error_unique s (Err refusal) (Err refusal') p q = ap Err (paper_told refusal refusal' (sym (p (accepted 0 [])) ∙ q (accepted 0 [])))
