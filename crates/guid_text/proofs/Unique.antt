-- One result for each statement: two results, or two results with their exits, that meet a public function's statement are
-- equal. A result's map to the documents' answers is one-to-one, since it has a left inverse. Assumes nothing.
use mathlib.Core.Path.{◌≡◌, refl, sym, ◌∙◌, ap}
use mathlib.Core.List.{List, [], ◌∷◌}
use Prim.Native.Nat.{ℕ}
use lib.ListN.{length, get_or}
use Rattle.words.specs.Decide.{decide, ◌⇒◌, ◌=?◌}
use Rattle.words.specs.Answer.{Answer, accepted, more, refused}
use Rattle.words.specs.Statement.{OneResult}
use Rattle.words.proofs.Unique.{equal_to_one, means_one}
use Rattle.words.proofs.PaperLaws.{no_room_of, no_room_back}
use Rattle.guid.specs.declared.Guid.{Guid}
use Rattle.guid.specs.Guid.{guid_of}
use Rattle.words.specs.declared.outcome.NoRoom.{NoRoom}
use Rattle.guid_text.specs.declared.BadGuid.{BadGuid}
use Rattle.std.specs.declared.result.Result.{Result}
use Rattle.std.specs.declared.result.Result.TheVariants.{Ok, Err}
use Rattle.guid_text.specs.declared.Reason.{Reason}
use Rattle.guid_text.specs.declared.Reason.TheVariants.{Empty, TooLong, NotHex, FieldCount}
use Rattle.guid_text.specs.Text.{text_of, printing}
use Rattle.guid_text.specs.Paper.{printed_paper, parsed_paper}
use Rattle.guid_text.specs.Reason.{reason_number}
use Rattle.guid_text.specs.Statement.{SizesText, Prints, Parses}
use Rattle.guid_text.proofs.ReasonLaws.{same_parsed}

-- back from an answer to the result
printed_back : Answer → Result ℕ NoRoom
printed_back (accepted count fields) = Ok count
printed_back more = Ok 0
printed_back (refused number values consumed) = Err (no_room_of values)

printed_back_lem : (r : Result ℕ NoRoom) → printed_back (printed_paper r) ≡ r
unfolding printed_back
printed_back_lem (Ok count) = refl
printed_back_lem (Err short) = ap Err (no_room_back short)

abbrev reason_of : ℕ → Reason
reason_of n = decide (n =? 1 ⇒ Empty ∷ n =? 2 ⇒ TooLong ∷ n =? 3 ⇒ NotHex ∷ []) FieldCount

reason_back : (reason : Reason) → reason_of (reason_number reason) ≡ reason
reason_back Empty = refl
reason_back TooLong = refl
reason_back NotHex = refl
reason_back FieldCount = refl

parsed_back : Answer → Result Guid BadGuid
parsed_back (accepted count fields) = Ok (guid_of (get_or fields 0 0) (get_or fields 1 0) (get_or fields 2 0) (get_or fields 3 0))
parsed_back more = Err record { position = 0; reason = Empty }
parsed_back (refused number values consumed) = Err record { position = get_or values 0 0; reason = reason_of (get_or values 1 0) }

parsed_back_lem : (r : Result Guid BadGuid) → parsed_back (parsed_paper r) ≡ r
unfolding parsed_back
parsed_back_lem (Ok g) = refl
parsed_back_lem (Err bad) = ap (λ (r : Reason). Err record { position = bad.position; reason = r }) (reason_back bad.reason)

-- the answer in the documents' terms tells what `parse` answered
pub parsed_told : (r r' : Result Guid BadGuid) → parsed_paper r ≡ parsed_paper r' → r ≡ r'
parsed_told r r' e = means_one parsed_paper parsed_back parsed_back_lem (parsed_paper r') r r' e refl

pub text_size_unique : (g : Guid) → OneResult (SizesText g)
text_size_unique g = equal_to_one (length (text_of g))

pub print_unique : (g : Guid) (before : List ℕ) → OneResult (λ (p : Result ℕ NoRoom × List ℕ). Prints g before p.0 p.1)
print_unique g before p p' q q' =
    let answer = means_one printed_paper printed_back printed_back_lem (printing g (length before)) p.0 p'.0 q.0 q'.0 in
    λ i. (answer i, (q.1 ∙ sym q'.1) i)

pub parse_unique : (s : List ℕ) → OneResult (Parses s)
parse_unique s = same_parsed s
