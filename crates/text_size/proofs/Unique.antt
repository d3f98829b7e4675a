-- One result for each statement: two results that meet a public function's statement are equal. Assumes nothing.
use mathlib.Core.Path.{◌≡◌, refl}
use mathlib.Core.List.{List}
use Prim.Native.Nat.{ℕ}
use Rattle.words.specs.Answer.{Answer}
use Rattle.words.specs.Statement.{OneResult}
use Rattle.words.proofs.Unique.{means_one}
use Rattle.wire.proofs.PaperLaws.{refusal_back, refusal_back_lem}
use Rattle.wire_check.specs.Paper.{paper_measured}
use Rattle.wire.specs.declared.error.WireError.{WireError}
use Rattle.std.specs.declared.result.Result.{Result}
use Rattle.std.specs.declared.result.Result.TheVariants.{Ok, Err}
use Rattle.text_size.specs.Statement.{sizing_text, SizesText}

abbrev measured_of : Answer → Result ℕ WireError
measured_of a = refusal_back (λ n fields. Ok n) Err a

measured_back_lem : (r : Result ℕ WireError) → measured_of (paper_measured r) ≡ r
measured_back_lem (Ok n) = refl
measured_back_lem (Err refusal) = refusal_back_lem (λ n fields. Ok n) Err refusal

pub text_size_unique : (area rows values : List ℕ) → OneResult (SizesText area rows values)
text_size_unique area rows values = means_one paper_measured measured_of measured_back_lem (sizing_text area rows values)
