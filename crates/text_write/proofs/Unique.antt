-- One result for each statement: two results, and two exits, that meet a public function's statement are equal.
-- Assumes nothing.
use mathlib.Core.Path.{◌≡◌, sym, ◌∙◌}
use mathlib.Core.List.{List}
use Prim.Native.Nat.{ℕ}
use lib.ListN.{length}
use Rattle.words.specs.Answer.{Answer}
use Rattle.words.specs.Statement.{OneResult}
use Rattle.words.proofs.Unique.{holds_one}
use Rattle.wire.specs.declared.error.WireError.{WireError}
use Rattle.std.specs.declared.result.Result.{Result}
use Rattle.wire_write.proofs.Unique.{encoded_one}
use Rattle.text_size.specs.Statement.{tables_text}
use Rattle.text_write.specs.Statement.{writing_text, WritesText}

-- the answer and the output at exit
pub write_text_unique : (area rows values before : List ℕ) → OneResult (λ (x : Result ℕ WireError × List ℕ). WritesText area rows values before x.0 x.1)
write_text_unique area rows values before x x' p q =
    let answer : Answer = writing_text area rows values (length before) in
    let first : x.0 ≡ x'.0 = encoded_one x.0 x'.0 (p.0 ∙ sym q.0) in
    let second : x.1 ≡ x'.1 = holds_one answer (tables_text area rows values) before x.1 x'.1 p.1 q.1 in
    λ i. (first i, second i)
