-- One result for each statement: two results that meet a public function's statement are equal. Assumes nothing.
use mathlib.Core.Path.{◌≡◌, refl, ◌∙◌, ap}
use mathlib.Core.List.{List}
use Prim.Native.Nat.{ℕ}
use lib.ListN.{get_or}
use Rattle.words.specs.Answer.{Answer, accepted, more, refused}
use Rattle.words.specs.Decide.{pick, ◌=?◌}
use Rattle.words.specs.Statement.{OneResult}
use Rattle.words.proofs.Unique.{means_one}
use Rattle.wire.specs.Paper.{paper}
use Rattle.wire.specs.declared.error.WireError.{WireError}
use Rattle.wire.specs.declared.error.WireError.TheVariants.{Truncated, TooManyRows, TooManyValues, ValueTooLong, RowsetTooLarge, UnknownValueType, TrailingBytes, NoRoom, BadTable}
use Rattle.wire.proofs.PaperLaws.{unpaper, paper_back_lem}
use Rattle.text_walk.specs.Paper.{text_paper, walked_paper}
use Rattle.text_walk.specs.Statement.{counting, Counts}
use Rattle.text_walk.specs.declared.error.TextError.{TextError}
use Rattle.text_walk.specs.declared.error.TextError.TheVariants.{BadText, Limit}
use Rattle.text_walk.specs.declared.walk.Walked.{Walked}
use Rattle.std.specs.declared.result.Result.{Result}
use Rattle.std.specs.declared.result.Result.TheVariants.{Ok, Err}

-- the refusal of an answer: 19, or one of a rowset
abbrev pub text_of : Answer → TextError
text_of (accepted n fields) = BadText 0
text_of more = BadText 0
text_of (refused number values consumed) = pick (number =? 19) (BadText (get_or values 0 0)) (Limit (unpaper (refused number values consumed)))

limit_back : (e : WireError) → text_of (paper e) ≡ Limit (unpaper (paper e))
limit_back (Truncated offset needed) = refl
limit_back (TooManyRows count) = refl
limit_back (TooManyValues row count) = refl
limit_back (ValueTooLong n) = refl
limit_back (RowsetTooLarge size) = refl
limit_back (UnknownValueType code) = refl
limit_back (TrailingBytes n) = refl
limit_back (NoRoom short) = refl
limit_back (BadTable rule position) = refl

pub text_back : (e : TextError) → text_of (text_paper e) ≡ e
text_back (BadText place) = refl
text_back (Limit e) = limit_back e ∙ ap Limit (paper_back_lem e)

abbrev pub walked_of : Answer → Result Walked TextError
walked_of (accepted n fields) = Ok record { rows = get_or fields 0 0; values = get_or fields 1 0; bytes = n }
walked_of more = Err (text_of more)
walked_of (refused number values consumed) = Err (text_of (refused number values consumed))

stopped_back : (e : TextError) → walked_of (text_paper e) ≡ Err (text_of (text_paper e))
stopped_back (BadText place) = refl
stopped_back (Limit (Truncated offset needed)) = refl
stopped_back (Limit (TooManyRows count)) = refl
stopped_back (Limit (TooManyValues row count)) = refl
stopped_back (Limit (ValueTooLong n)) = refl
stopped_back (Limit (RowsetTooLarge size)) = refl
stopped_back (Limit (UnknownValueType code)) = refl
stopped_back (Limit (TrailingBytes n)) = refl
stopped_back (Limit (NoRoom short)) = refl
stopped_back (Limit (BadTable rule position)) = refl

pub walked_back : (r : Result Walked TextError) → walked_of (walked_paper r) ≡ r
walked_back (Ok walked) = refl
walked_back (Err e) = stopped_back e ∙ ap Err (text_back e)

pub count_text_unique : (s : List ℕ) → OneResult (Counts s)
count_text_unique s = means_one walked_paper walked_of walked_back (counting s)
