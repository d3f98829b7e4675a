-- One result for each statement, and one exit of each lent table. Assumes nothing.
use mathlib.Core.Path.{◌≡◌, refl, sym, ◌∙◌, ap}
use mathlib.Core.List.{List}
use Prim.Native.Nat.{ℕ}
use lib.ListN.{length, get_or}
use Rattle.words.specs.Answer.{Answer}
use Rattle.words.specs.Statement.{OneResult}
use Rattle.words.proofs.Unique.{equal_to_one, means_one, holds_one}
use Rattle.wire.specs.Layout.{count_at, row_words, value_words}
use Rattle.wire.proofs.PaperLaws.{refusal_back, refusal_back_lem}
use Rattle.wire_read.specs.Reading.{reading}
use Rattle.wire_read.specs.Plain.{plain}
use Rattle.wire_read.specs.Paper.{paper_decoded}
use Rattle.wire_read.specs.Statement.{Decodes, TellsPlain}
use Rattle.wire_read.specs.declared.rowset.Decoded.{Decoded}
use Rattle.wire.specs.declared.error.WireError.{WireError}
use Rattle.std.specs.declared.result.Result.{Result}
use Rattle.std.specs.declared.result.Result.TheVariants.{Ok, Err}

-- document 01's answer tells the code's
abbrev decoded_of : Answer → Result Decoded WireError
decoded_of a = refusal_back (λ n fields. Ok record { rows = get_or fields 0 0; values = get_or fields 1 0 }) Err a

decoded_back_lem : (r : Result Decoded WireError) → decoded_of (paper_decoded r) ≡ r
decoded_back_lem (Ok read) = refl
decoded_back_lem (Err refusal) = refusal_back_lem (λ n fields. Ok record { rows = get_or fields 0 0; values = get_or fields 1 0 }) Err refusal

pub decoded_injective : (r r' : Result Decoded WireError) → paper_decoded r ≡ paper_decoded r' → r ≡ r'
decoded_injective r r' e = sym (decoded_back_lem r) ∙ ap decoded_of e ∙ decoded_back_lem r'

pub decode_rowset_unique : (s rows values : List ℕ) (r r' : Result Decoded WireError) (a a' b b' : List ℕ) → Decodes s rows values r a b → Decodes s rows values r' a' b'
    → (r ≡ r') × (a ≡ a') × (b ≡ b')
decode_rowset_unique s rows values r r' a a' b b' p q =
    let answer : Answer = reading s (length rows) (length values) in (
      means_one paper_decoded decoded_of decoded_back_lem answer r r' p.0 q.0,
      holds_one answer (row_words s (count_at s 0) 8) rows a a' p.1 q.1,
      holds_one answer (value_words s (count_at s 0) 8) values b b' p.2 q.2,
    )

pub is_plain_unique : (s : List ℕ) → OneResult (TellsPlain s)
is_plain_unique s = equal_to_one (plain s)
