-- One result for each statement: two results that meet a public function's statement are equal. Assumes nothing.
use mathlib.Core.Path.{sym, ◌∙◌, ap}
use mathlib.Core.List.{List}
use Prim.Native.Nat.{ℕ}
use Rattle.words.specs.Answer.{more}
use Rattle.words.specs.Paper.{Tells, outcome}
use Rattle.words.specs.Statement.{OneResult}
use Rattle.words.proofs.Unique.{equal_to_one}
use Rattle.wire.proofs.PaperLaws.{paper_injective, paper_never_more, paper_never_accepted}
use Rattle.wire_value.specs.ValueOf.{header_at}
use Rattle.wire_value.specs.Paper.{paper_value}
use Rattle.wire_value.specs.Statement.{ReadsHeader, ChecksValue, ReadsValue}
use Rattle.wire.specs.declared.error.WireError.{WireError}
use Rattle.wire_value.specs.declared.value.UnversionedValue.{UnversionedValue}
use Rattle.std.specs.declared.result.Result.{Result}
use Rattle.std.specs.declared.result.Result.TheVariants.{Ok, Err}

pub read_header_unique : (s : List ℕ) (at : ℕ) → OneResult (ReadsHeader s at)
read_header_unique s at = equal_to_one (header_at s at)

pub check_value_unique : (s : List ℕ) (at : ℕ) → OneResult (ChecksValue s at)
check_value_unique s at (Ok v) (Ok w) p q = λ i. Ok record { header = (p.0 ∙ sym q.0) i; next = (p.1 ∙ sym q.1) i }
check_value_unique s at (Ok v) (Err e) p q = absurd (paper_never_more e (sym (q more) ∙ p.2 more))
check_value_unique s at (Err e) (Ok v) p q = absurd (paper_never_more e (sym (p more) ∙ q.2 more))
check_value_unique s at (Err e) (Err f) p q = ap Err (paper_injective e f (sym (p more) ∙ q more))

pub read_value_unique : (s : List ℕ) (at : ℕ) → OneResult (ReadsValue s at)
read_value_unique s at (Ok v) (Ok w) p q = ap Ok (p.1 ∙ sym q.1)
read_value_unique s at (Ok v) (Err e) p q = absurd (paper_never_accepted e _ _ (q.0 ∙ sym p.0))
read_value_unique s at (Err e) (Ok w) p q = absurd (paper_never_accepted e _ _ (p.0 ∙ sym q.0))
read_value_unique s at (Err e) (Err f) p q = ap Err (paper_injective e f (p.0 ∙ sym q.0))

pub outcome_unique : (answer : Result UnversionedValue WireError) → OneResult (Tells (paper_value answer))
outcome_unique answer = equal_to_one (outcome (paper_value answer))
