-- One result for each statement: two results that meet a public function's statement are equal.
-- Assumes nothing.
use mathlib.Core.Path.{◌≡◌, refl}
use mathlib.Core.List.{List}
use Prim.Native.Nat.{ℕ}
use lib.ListN.{length}
use Rattle.words.specs.Answer.{Answer}
use Rattle.words.specs.Paper.{Tells, outcome}
use Rattle.words.specs.Statement.{OneResult}
use Rattle.words.proofs.Unique.{equal_to_one, means_one}
use Rattle.wire.proofs.PaperLaws.{refusal_back, refusal_back_lem}
use Rattle.wire_check.specs.Writing.{first_bad, measuring}
use Rattle.wire_check.specs.Paper.{paper_measured}
use Rattle.wire_check.specs.Statement.{Measures, FindsBad}
use Rattle.wire.specs.declared.error.WireError.{WireError}
use Rattle.std.specs.declared.result.Result.{Result}
use Rattle.std.specs.declared.result.Result.TheVariants.{Ok, Err}

abbrev measured_of : Answer → Result ℕ WireError
measured_of a = refusal_back (λ n fields. Ok n) Err a

measured_back_lem : (r : Result ℕ WireError) → measured_of (paper_measured r) ≡ r
measured_back_lem (Ok n) = refl
measured_back_lem (Err refusal) = refusal_back_lem (λ n fields. Ok n) Err refusal

pub encoded_size_unique : (area rows values : List ℕ) → OneResult (Measures area rows values)
encoded_size_unique area rows values = means_one paper_measured measured_of measured_back_lem (measuring area rows values)

pub outcome_unique : (answer : Result ℕ WireError) → OneResult (Tells (paper_measured answer))
outcome_unique answer = equal_to_one (outcome (paper_measured answer))

pub first_bad_unique : (area values : List ℕ) → OneResult (FindsBad area values)
first_bad_unique area values = equal_to_one (first_bad (length area) values)
