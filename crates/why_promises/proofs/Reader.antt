-- What is told of a packet agrees with what its reader answers. Assumes nothing.
use Rattle.std.specs.declared.option.Option.TheVariants.{Some, None}
use Rattle.std.specs.declared.result.Result.TheVariants.{Ok, Err}
use Rattle.packet.specs.Paper.{refusal}
use Prim.Native.Nat.{ℕ}
use mathlib.Core.Bool.{Bool, true, false}
use mathlib.Core.List.{List, []}
use mathlib.Core.Path.{◌≡◌, refl, sym, ◌∙◌}
use lib.ListN.{length}
use Rattle.words.specs.Answer.{Answer}
use Rattle.words.specs.Decide.{pick, ◌<?◌}
use Rattle.packet.specs.Layout.{count, fixed_header_size, headers, whole}
use Rattle.packet.specs.declared.PacketError.{PacketError}
use Rattle.packet.specs.declared.PacketError.TheVariants.{Signature, UnknownType, TooManyParts, PartTooLarge, FixedHeaderChecksum, VariableHeaderChecksum, PartChecksum, MessageTooLarge, NoRoom, BadTable, RetiredType}
use Rattle.packet_answer.specs.Paper.{Decoded, paper}
use Rattle.finding.specs.Saying.{Saying, waiting}
use Rattle.finding.specs.Meaning.{meaning}
use Rattle.why_packet.specs.Stages.{refusal_tells, more_tells, tells}
use Rattle.why_packet.proofs.TellLaws.{answer_tells}
use Rattle.why_promises.specs.Why.{is_waiting, AgreesWith, WhyAgreesWithTheReader}

either_waits : (a b : Bool) (n m k : ℕ) → is_waiting (pick a (waiting "fixed-header" n) (pick b (waiting "headers" m) (waiting "whole" k))) ≡ true
either_waits true b n m k = refl
either_waits false true n m k = refl
either_waits false false n m k = refl

refusal_agrees : (s : List ℕ) (ceiling : ℕ) (error : PacketError) (consumed : ℕ) → AgreesWith (refusal error consumed) (tells s (count s) ceiling (refusal error consumed))
unfolding tells refusal_tells
refusal_agrees s ceiling (Signature found) consumed = refl
refusal_agrees s ceiling (UnknownType found) consumed = refl
refusal_agrees s ceiling (TooManyParts n) consumed = refl
refusal_agrees s ceiling (PartTooLarge index size) consumed = refl
refusal_agrees s ceiling (FixedHeaderChecksum stored computed) consumed = refl
refusal_agrees s ceiling (VariableHeaderChecksum stored computed) consumed = refl
refusal_agrees s ceiling (PartChecksum index stored computed) consumed = refl
refusal_agrees s ceiling (MessageTooLarge size limit) consumed = refl
refusal_agrees s ceiling (NoRoom short) consumed = refl
refusal_agrees s ceiling (BadTable rule position) consumed = refl
refusal_agrees s ceiling (RetiredType found) consumed = refl

agrees : (s : List ℕ) (ceiling : ℕ) (d : Decoded) → AgreesWith (paper d) (tells s (count s) ceiling (paper d))
unfolding tells more_tells
agrees s ceiling (Ok (Some read)) = refl
agrees s ceiling (Ok None) = either_waits (length s <? fixed_header_size) (length s <? headers (count s)) fixed_header_size (headers (count s)) (whole s (count s))
agrees s ceiling (Err refused) = refusal_agrees s ceiling refused.error refused.consumed

pub why_agrees_with_the_reader : WhyAgreesWithTheReader
why_agrees_with_the_reader s mode limit ceiling table d after r decodes e =
    rw (e ∙ sym (answer_tells s mode limit ceiling table d after decodes)) (agrees s ceiling d)
