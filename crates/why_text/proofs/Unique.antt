-- One result for the statement: two answers, with the text at exit, that meet it are equal. Assumes nothing.
use Prim.Native.Nat.{ℕ}
use mathlib.Core.Path.{◌≡◌, refl, sym, ◌∙◌, ap}
use mathlib.Core.List.{List}
use lib.ListN.{length}
use Rattle.words.specs.Answer.{Answer, accepted, more, refused}
use Rattle.words.specs.Statement.{OneResult}
use Rattle.words.proofs.Unique.{means_one}
use Rattle.words.proofs.PaperLaws.{no_room_of, no_room_back}
use Rattle.finding.specs.Meaning.{meaning}
use Rattle.finding.specs.declared.Finding.{Finding}
use Rattle.why_text.specs.Text.{line_of}
use Rattle.why_text.specs.Statement.{Line, paper, written, Writes, WritesLine}
use Rattle.std.specs.declared.result.Result.TheVariants.{Ok, Err}

-- back from an answer to the answer
back : Answer → Line
back (accepted count fields) = Ok count
back more = Ok 0
back (refused number values consumed) = Err (no_room_of values)

paper_back_lem : (r : Line) → back (paper r) ≡ r
unfolding back
paper_back_lem (Ok count) = refl
paper_back_lem (Err short) = ap Err (no_room_back short)

-- of any text
pub writes_unique : (ws before : List ℕ) → OneResult (λ (x : Line × List ℕ). Writes ws before x.0 x.1)
writes_unique ws before x x' p p' =
    let answer = means_one paper back paper_back_lem (written ws (length before)) x.0 x'.0 p.0 p'.0 in
    λ i. (answer i, (p.1 ∙ sym p'.1) i)

pub write_unique : (finding : Finding) (before : List ℕ) → OneResult (λ (x : Line × List ℕ). WritesLine finding before x.0 x.1)
write_unique finding before = writes_unique (line_of (meaning finding)) before
