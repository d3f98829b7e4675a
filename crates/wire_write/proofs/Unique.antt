-- One result for each statement: two results, and two exits, that meet a public function's statement are equal.
-- Assumes nothing.
use mathlib.Core.Path.{◌≡◌, refl, sym, ◌∙◌, ap}
use mathlib.Core.List.{List}
use Prim.Native.Nat.{ℕ}
use lib.ListN.{length}
use Rattle.words.specs.Answer.{Answer}
use Rattle.words.specs.Paper.{Tells, outcome}
use Rattle.words.specs.Statement.{OneResult}
use Rattle.words.proofs.Unique.{equal_to_one, means_one, holds_one}
use Rattle.wire.specs.Layout.{rowset_bytes}
use Rattle.wire.proofs.PaperLaws.{refusal_back, refusal_back_lem}
use Rattle.wire_check.specs.Writing.{writing}
use Rattle.wire_write.specs.Paper.{paper_encoded}
use Rattle.wire_write.specs.Statement.{Encodes}
use Rattle.wire.specs.declared.error.WireError.{WireError}
use Rattle.std.specs.declared.result.Result.{Result}
use Rattle.std.specs.declared.result.Result.TheVariants.{Ok, Err}

abbrev encoded_of : Answer → Result ℕ WireError
encoded_of a = refusal_back (λ n fields. Ok n) Err a

encoded_back_lem : (r : Result ℕ WireError) → encoded_of (paper_encoded r) ≡ r
encoded_back_lem (Ok n) = refl
encoded_back_lem (Err refusal) = refusal_back_lem (λ n fields. Ok n) Err refusal

pub encoded_one : (r r' : Result ℕ WireError) → paper_encoded r ≡ paper_encoded r' → r ≡ r'
encoded_one r r' same = sym (encoded_back_lem r) ∙ ap encoded_of same ∙ encoded_back_lem r'

-- the answer and the output at exit
pub encode_rowset_unique : (area rows values before : List ℕ) → OneResult (λ (x : Result ℕ WireError × List ℕ). Encodes area rows values before x.0 x.1)
encode_rowset_unique area rows values before x x' p q =
    let answer : Answer = writing area rows values (length before) in
    let first : x.0 ≡ x'.0 = means_one paper_encoded encoded_of encoded_back_lem answer x.0 x'.0 p.0 q.0 in
    let second : x.1 ≡ x'.1 = holds_one answer (rowset_bytes area rows values) before x.1 x'.1 p.1 q.1 in
    λ i. (first i, second i)

-- the words of an answer, which `outcome` of `wire_check` gives
pub outcome_unique : (answer : Result ℕ WireError) → OneResult (Tells (paper_encoded answer))
outcome_unique answer = equal_to_one (outcome (paper_encoded answer))
