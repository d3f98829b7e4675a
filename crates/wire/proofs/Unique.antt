-- One result for each statement: two results that meet a public function's statement are equal. Assumes nothing.
use Prim.Native.Nat.{ℕ}
use mathlib.Core.List.{List, []}
use mathlib.Core.Path.{◌≡◌, refl}
use Rattle.words.specs.Answer.{Answer, accepted}
use Rattle.words.specs.Paper.{Tells, outcome}
use Rattle.words.specs.Statement.{OneResult}
use Rattle.words.proofs.Unique.{equal_to_one, means_one}
use Rattle.wire.specs.Layout.{values_in, padded, flag, bits_of}
use Rattle.wire.specs.Kind.{kind_of}
use Rattle.wire.specs.Paper.{paper}
use Rattle.wire.specs.Statement.{CountsValues, Pads, Flags, IsKind, IsBits}
use Rattle.wire.specs.Need.{needing, paper_needed, Needs}
use Rattle.wire.specs.declared.error.WireError.{WireError}
use Rattle.std.specs.declared.result.Result.{Result}
use Rattle.std.specs.declared.result.Result.TheVariants.{Ok, Err}
use Rattle.wire.proofs.PaperLaws.{refusal_back, refusal_back_lem}

pub values_in_unique : (count : ℕ) → OneResult (CountsValues count)
values_in_unique count = equal_to_one (values_in count)

pub padded_unique : (n : ℕ) → OneResult (Pads n)
padded_unique n = equal_to_one (padded n)

pub kind_of_unique : (type : ℕ) → OneResult (IsKind type)
kind_of_unique type = equal_to_one (kind_of type)

pub bits_of_unique : (type n : ℕ) → OneResult (IsBits type n)
bits_of_unique type n = equal_to_one (bits_of type n)

pub outcome_unique : (error : WireError) → OneResult (Tells (paper error))
outcome_unique error = equal_to_one (outcome (paper error))

pub flag_unique : (n : ℕ) → OneResult (Flags n)
flag_unique n = equal_to_one (flag n)

abbrev needed_of : Answer → Result (Unit {0}) WireError
needed_of a = refusal_back (λ n fields. Ok tt) Err a

needed_back : (r : Result (Unit {0}) WireError) → needed_of (paper_needed r) ≡ r
needed_back (Ok tt) = refl
needed_back (Err refusal) = refusal_back_lem (λ n fields. Ok tt) Err refusal

pub need_at_unique : (s : List ℕ) (at n : ℕ) → OneResult (Needs s at n)
need_at_unique s at n = means_one paper_needed needed_of needed_back (needing s at n (accepted 0 []))
