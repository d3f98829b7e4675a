-- One result for each statement. Assumes nothing.
use mathlib.Core.Path.{◌≡◌, refl, sym, ◌∙◌, ap}
use mathlib.Core.List.{List}
use Prim.Native.Nat.{ℕ}
use lib.ListN.{length}
use Rattle.words.specs.Answer.{Answer, accepted, more, refused}
use Rattle.words.specs.Statement.{OneResult}
use Rattle.words.proofs.Unique.{means_one}
use Rattle.error_tree.proofs.Unique.{paper_back, paper_back_lem}
use Rattle.error_tree.specs.declared.refusal.ErrorRefusal.TheVariants.{BadMessage, ErrorsTooDeep, BadTable, NoRoom}
use Rattle.error_write.specs.Writing.{measuring, writing}
use Rattle.error_write.specs.Paper.{bytes_paper}
use Rattle.error_write.specs.Statement.{Measures, Encodes}
use Rattle.error_tree.specs.declared.refusal.ErrorRefusal.{ErrorRefusal}
use Rattle.std.specs.declared.result.Result.{Result}
use Rattle.std.specs.declared.result.Result.TheVariants.{Ok, Err}

-- back from an answer to the result's case
bytes_back : Answer → Result ℕ ErrorRefusal
bytes_back (accepted count fields) = Ok count
bytes_back more = Ok 0
bytes_back (refused number values consumed) = Err (paper_back (refused number values consumed))

bytes_back_lem : (r : Result ℕ ErrorRefusal) → bytes_back (bytes_paper r) ≡ r
unfolding bytes_back
bytes_back_lem (Ok count) = refl
bytes_back_lem (Err (BadMessage place)) = refl
bytes_back_lem (Err (ErrorsTooDeep place)) = refl
bytes_back_lem (Err (BadTable rule position)) = refl
bytes_back_lem (Err (NoRoom short)) = ap Err (paper_back_lem (NoRoom short))

pub error_size_unique : (area errors attributes : List ℕ) → OneResult (Measures area errors attributes)
error_size_unique area errors attributes = means_one bytes_paper bytes_back bytes_back_lem (measuring area errors attributes)

pub encode_error_unique : (area errors attributes out : List ℕ) → OneResult (λ (p : Result ℕ ErrorRefusal × List ℕ). Encodes area errors attributes out p.0 p.1)
encode_error_unique area errors attributes out p p' q q' =
    let answer = means_one bytes_paper bytes_back bytes_back_lem (writing area errors attributes (length out)) p.0 p'.0 q.0 q'.0 in
    λ i. (answer i, (q.1 ∙ sym q'.1) i)
