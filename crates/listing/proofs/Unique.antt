-- One result for each statement: two answers of `list`, with the text at exit, that meet its statement are equal. Assumes nothing.
use mathlib.Core.Path.{◌≡◌, refl, sym, ◌∙◌, ap}
use mathlib.Core.List.{List}
use lib.ListN.{length}
use Rattle.words.specs.Answer.{Answer, accepted, more, refused}
use Rattle.words.specs.Statement.{OneResult}
use Rattle.words.proofs.Unique.{means_one}
use Rattle.words.proofs.PaperLaws.{no_room_of, no_room_back}
use Prim.Native.Nat.{ℕ}
use Rattle.std.specs.declared.result.Result.TheVariants.{Ok, Err}
use Rattle.listing.specs.Output.{listing}
use Rattle.listing.specs.Statement.{Listed, paper, Lists}

-- back from an answer to the answer
back : Answer → Listed
back (accepted count fields) = Ok count
back more = Ok 0
back (refused number values consumed) = Err (no_room_of values)

paper_back_lem : (r : Listed) → back (paper r) ≡ r
unfolding back
paper_back_lem (Ok count) = refl
paper_back_lem (Err short) = ap Err (no_room_back short)

pub list_unique : (s before : List ℕ) → OneResult (λ (x : Listed × List ℕ). Lists s before x.0 x.1)
list_unique s before x x' p p' =
    let answer = means_one paper back paper_back_lem (listing s (length before)) x.0 x'.0 p.0 p'.0 in
    λ i. (answer i, (p.1 ∙ sym p'.1) i)
