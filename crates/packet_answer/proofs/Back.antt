-- The way back from document 01's terms to the reader's answer: the map to those terms loses nothing, so two answers
-- that it takes to one are equal. Assumes nothing.
use mathlib.Core.Path.{◌≡◌, refl}
use Rattle.std.specs.declared.option.Option.TheVariants.{Some, None}
use Rattle.std.specs.declared.result.Result.TheVariants.{Ok, Err}
use Rattle.words.specs.Answer.{Answer, accepted, more, refused}
use Rattle.words.proofs.Unique.{means_one}
use Rattle.packet.proofs.Back.{error_of, error_back, packet_of, packet_back}
use Rattle.packet_answer.specs.Paper.{Decoded, paper}

abbrev pub back : Answer → Decoded
back (accepted taken fields) = Ok (Some record { packet = packet_of fields; consumed = taken })
back more = Ok None
back (refused number values taken) = Err record { error = error_of number values; consumed = taken }

pub paper_back_lem : (r : Decoded) → back (paper r) ≡ r
paper_back_lem (Ok (Some read)) = λ i. Ok (Some record { packet = packet_back read.packet i; consumed = read.consumed })
paper_back_lem (Ok None) = refl
paper_back_lem (Err refusal) = λ i. Err record { error = error_back refusal.error i; consumed = refusal.consumed }

-- two answers that mean the same are the same
pub paper_injective : (r r' : Decoded) → paper r ≡ paper r' → r ≡ r'
paper_injective r r' same = means_one paper back paper_back_lem (paper r') r r' same refl
