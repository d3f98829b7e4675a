-- One result for each statement: two outcomes, with what the lent buffers hold at exit, that meet an exported function's statement
-- are equal. Assumes nothing.
use Prim.Native.Nat.{ℕ, ◌/◌}
use mathlib.Core.Path.{sym, ◌∙◌, ap}
use mathlib.Core.List.{List}
use lib.ListN.{length}
use Rattle.words.specs.Answer.{Answer, afterwards}
use Rattle.words.specs.Statement.{OneResult}
use Rattle.yson.specs.Reading.{words_of, listing}
use Rattle.yson.proofs.Unique.{one_reading}
use Rattle.words.specs.Paper.{outcome}
use Rattle.words.specs.declared.outcome.Outcome.{Outcome}
use Rattle.face_notes.specs.Statement.{ChecksYson, ListsYson}

pub cablefinch_yson_check_unique : (s : List ℕ) → OneResult (ChecksYson s)
cablefinch_yson_check_unique s r r' (x, tells) (x', tells') = tells ∙ ap outcome (one_reading s x x').checked ∙ sym tells'

pub cablefinch_yson_items_unique : (s before : List ℕ) → OneResult (λ (x : Outcome × List ℕ). ListsYson s before x.0 x.1)
cablefinch_yson_items_unique s before r r' (x, tells, holds) (x', tells', holds') =
    let room : ℕ = length before / 4 in
    let same = one_reading s x x' in
    let told = tells ∙ ap outcome (same.listed room) ∙ sym tells' in
    let exits =
    holds
    ∙ ap (λ (a : Answer). afterwards a (words_of x) before) (same.listed room)
    ∙ ap (λ (ws : List ℕ). afterwards (listing x' room) ws before) same.words
    ∙ sym holds' in
    λ i. (told i, exits i)
