-- One result for each statement. Assumes nothing.
use mathlib.Core.Path.{◌≡◌, refl}
use mathlib.Core.List.{List, [], ◌∷◌}
use Prim.Native.Nat.{ℕ, ◌+◌}
use lib.ListN.{get_or}
use Rattle.words.specs.Answer.{Answer, accepted}
use Rattle.words.specs.Statement.{OneResult}
use Rattle.words.specs.Word.{word}
use Rattle.words.proofs.Unique.{means_one}
use Rattle.wire.specs.Need.{needing, Needs}
use Rattle.wire.proofs.PaperLaws.{refusal_back, refusal_back_lem}
use Rattle.wire.proofs.Unique.{need_at_unique}
use Rattle.wire_value.specs.Statement.{ReadsValue}
use Rattle.wire_value.proofs.Unique.{read_value_unique}
use Rattle.wire_reader.specs.Statement.{paper_word, ReadsU64}
use Rattle.wire.specs.declared.error.WireError.{WireError}
use Rattle.std.specs.declared.result.Result.{Result}
use Rattle.std.specs.declared.result.Result.TheVariants.{Ok, Err}
use Rattle.wire_reader.specs.declared.Word.{Word}

abbrev word_of : Answer → Result Word WireError
word_of a = refusal_back (λ next fields. Ok record { value = get_or fields 0 0; next = next }) Err a

word_back : (r : Result Word WireError) → word_of (paper_word r) ≡ r
word_back (Ok w) = refl
word_back (Err refusal) = refusal_back_lem (λ next fields. Ok record { value = get_or fields 0 0; next = next }) Err refusal

pub read_u64_at_unique : (s : List ℕ) (at : ℕ) → OneResult (ReadsU64 s at)
read_u64_at_unique s at = means_one paper_word word_of word_back (needing s at 8 (accepted (at + 8) (word 8 s at ∷ [])))

pub Reader-need-unique : (s : List ℕ) (at n : ℕ) → OneResult (Needs s at n)
Reader-need-unique = need_at_unique

pub Reader-read-u64-unique : (s : List ℕ) (at : ℕ) → OneResult (ReadsU64 s at)
Reader-read-u64-unique = read_u64_at_unique

pub Reader-read-value-unique : (s : List ℕ) (at : ℕ) → OneResult (ReadsValue s at)
Reader-read-value-unique = read_value_unique
