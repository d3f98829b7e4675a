-- One result for each statement: the answer and both tables at exit. Assumes nothing.
use mathlib.Core.Path.{◌≡◌, refl, sym, ◌∙◌, ap}
use mathlib.Core.List.{List}
use Prim.Native.Nat.{ℕ}
use lib.ListN.{length, get_or}
use Rattle.words.specs.Answer.{Answer, accepted, more, refused}
use Rattle.words.specs.Statement.{OneResult}
use Rattle.words.proofs.Unique.{means_one}
use Rattle.error_tree.specs.Reading.{reading}
use Rattle.error_tree.proofs.Unique.{paper_back, paper_back_lem}
use Rattle.error_tree.specs.declared.refusal.ErrorRefusal.TheVariants.{BadMessage, ErrorsTooDeep, BadTable, NoRoom}
use Rattle.error_read.specs.Paper.{decoded_paper}
use Rattle.error_read.specs.Statement.{Decodes}
use Rattle.error_tree.specs.declared.refusal.ErrorRefusal.{ErrorRefusal}
use Rattle.error_walk.specs.declared.walk.Counted.{Counted}
use Rattle.std.specs.declared.result.Result.{Result}
use Rattle.std.specs.declared.result.Result.TheVariants.{Ok, Err}

abbrev Decoded : Type 0
Decoded = Result Counted ErrorRefusal

-- back from an answer to the result's case
decoded_back : Answer → Decoded
decoded_back (accepted count fields) = Ok record { errors = get_or fields 0 0; attributes = get_or fields 1 0 }
decoded_back more = Ok record { errors = 0; attributes = 0 }
decoded_back (refused number values consumed) = Err (paper_back (refused number values consumed))

decoded_back_lem : (r : Decoded) → decoded_back (decoded_paper r) ≡ r
unfolding decoded_back
decoded_back_lem (Ok c) = refl
decoded_back_lem (Err (BadMessage place)) = refl
decoded_back_lem (Err (ErrorsTooDeep place)) = refl
decoded_back_lem (Err (BadTable rule position)) = refl
decoded_back_lem (Err (NoRoom short)) = ap Err (paper_back_lem (NoRoom short))

-- two answers that mean the same are one
pub decoded_told : (r r' : Decoded) → decoded_paper r ≡ decoded_paper r' → r ≡ r'
decoded_told r r' e = means_one decoded_paper decoded_back decoded_back_lem (decoded_paper r') r r' e refl

pub decode_error_unique : (s errors attributes : List ℕ)
    → OneResult (λ (p : Decoded × List ℕ × List ℕ). Decodes s errors attributes p.0 p.1 p.2)
decode_error_unique s errors attributes p p' q q' =
    let answer = means_one decoded_paper decoded_back decoded_back_lem (reading s (length errors) (length attributes)) p.0 p'.0 q.0 q'.0 in
    λ i. (answer i, (q.1 ∙ sym q'.1) i, (q.2 ∙ sym q'.2) i)
