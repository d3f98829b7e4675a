-- One result for each statement: two results, and two exits, that meet a public function's statement are equal.
-- Assumes nothing.
use mathlib.Core.Path.{◌≡◌, refl}
use mathlib.Core.Bool.{◌&&◌}
use mathlib.Core.List.{List}
use Prim.Native.Nat.{ℕ, ◌+◌}
use lib.ListN.{length}
use Rattle.words.specs.Answer.{Answer}
use Rattle.words.specs.Buffer.{stretch}
use Rattle.words.specs.Decide.{◌<?◌}
use Rattle.words.specs.Paper.{Tells, outcome}
use Rattle.words.specs.Statement.{OneResult}
use Rattle.words.proofs.Unique.{equal_to_one, means_one, holds_one}
use Rattle.wire.specs.Layout.{blob}
use Rattle.wire.proofs.PaperLaws.{refusal_back, refusal_back_lem}
use Rattle.pack_pairs.specs.Packing.{capped, packing, packed_table, packed_area}
use Rattle.pack_answer.specs.Paper.{paper_packed}
use Rattle.pack_answer.specs.Statement.{Packs, IsBlob, IsStored, CutIs, AddsCapped}
use Rattle.wire.specs.declared.error.WireError.{WireError}
use Rattle.std.specs.declared.result.Result.{Result}
use Rattle.std.specs.declared.result.Result.TheVariants.{Ok, Err}

abbrev packed_of : Answer → Result ℕ WireError
packed_of a = refusal_back (λ n fields. Ok n) Err a

packed_back : (r : Result ℕ WireError) → packed_of (paper_packed r) ≡ r
packed_back (Ok n) = refl
packed_back (Err refusal) = refusal_back_lem (λ n fields. Ok n) Err refusal

-- the answer, the table and the second area at exit
pub packs_unique : (area values out : List ℕ) → OneResult (λ (x : Result ℕ WireError × List ℕ × List ℕ). Packs area values out x.0 x.1 x.2)
packs_unique area values out x x' p q =
    let answer : Answer = packing area values (length out) in
    let first : x.0 ≡ x'.0 = means_one paper_packed packed_of packed_back answer x.0 x'.0 p.0 q.0 in
    let second : x.1 ≡ x'.1 = holds_one answer (packed_table values) values x.1 x'.1 p.1 q.1 in
    let third : x.2 ≡ x'.2 = holds_one answer (packed_area area values) out x.2 x'.2 p.2 q.2 in
    λ i. (first i, second i, third i)

pub outcome_unique : (answer : Result ℕ WireError) → OneResult (Tells (paper_packed answer))
outcome_unique answer = equal_to_one (outcome (paper_packed answer))

pub is_blob_unique : (type : ℕ) → OneResult (IsBlob type)
is_blob_unique type = equal_to_one (blob type)

pub is_stored_unique : (type n : ℕ) → OneResult (IsStored type n)
is_stored_unique type n = equal_to_one (blob type && 0 <? n)

pub cut_unique : (area : List ℕ) (start n : ℕ) → OneResult (CutIs area start n)
cut_unique area start n = equal_to_one (stretch area start n)

pub add_capped_unique : (sum more : ℕ) → OneResult (AddsCapped sum more)
add_capped_unique sum more = equal_to_one (capped (sum + more))
