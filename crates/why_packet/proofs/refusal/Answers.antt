-- `refusal` meets its contract, case by case. Assumes nothing.
use native.Mathlib.Omega.{arith}
use Rattle.why_packet.specs.Stages.{refusal_tells}
use Rattle.why_packet.proofs.TellLaws.{number_is, part_inside, sum_inside}
use Rattle.why_packet.proofs.refusal.Goals as goal

pub overflow_mul-result-in-PartTooLarge : goal.overflow_mul-result-in-PartTooLarge
overflow_mul-result-in-PartTooLarge c =
    let start = c in
    omega (arith, part_inside start.args.count start.args.error _ _ start.requires c.in-PartTooLarge.is)

pub overflow_add-result-in-PartTooLarge : goal.overflow_add-result-in-PartTooLarge
overflow_add-result-in-PartTooLarge c =
    let start = c in
    omega (arith, part_inside start.args.count start.args.error _ _ start.requires c.in-PartTooLarge.is)

pub overflow_mul-result-in-PartChecksum-2 : goal.overflow_mul-result-in-PartChecksum-2
overflow_mul-result-in-PartChecksum-2 c =
    let start = c in
    omega (arith, sum_inside start.args.count start.args.error _ _ _ start.requires c.in-PartChecksum.is)

pub overflow_add-result-in-PartChecksum-2 : goal.overflow_add-result-in-PartChecksum-2
overflow_add-result-in-PartChecksum-2 c =
    let start = c in
    omega (arith, sum_inside start.args.count start.args.error _ _ _ start.requires c.in-PartChecksum.is)

pub returns-in-Signature : goal.returns-in-Signature
unfolding refusal_tells
returns-in-Signature c =
    let refused = c.refused-told in
    rw (number_is c.args.error refused.result refused.ensures, c.in-Signature.is)

pub returns-in-UnknownType : goal.returns-in-UnknownType
unfolding refusal_tells
returns-in-UnknownType c =
    let refused = c.refused-told in
    rw (number_is c.args.error refused.result refused.ensures, c.from.ensures, c.in-UnknownType.is)

pub returns-in-RetiredType : goal.returns-in-RetiredType
unfolding refusal_tells
returns-in-RetiredType c =
    let refused = c.refused-told in
    rw (number_is c.args.error refused.result refused.ensures, c.in-RetiredType.is)

pub returns-in-FixedHeaderChecksum : goal.returns-in-FixedHeaderChecksum
unfolding refusal_tells
returns-in-FixedHeaderChecksum c =
    let refused = c.refused-told in
    rw (number_is c.args.error refused.result refused.ensures, c.in-FixedHeaderChecksum.is)

pub returns-in-TooManyParts : goal.returns-in-TooManyParts
unfolding refusal_tells
returns-in-TooManyParts c =
    let refused = c.refused-told in
    rw (number_is c.args.error refused.result refused.ensures, c.min.ensures, c.in-TooManyParts.is)

pub returns-in-MessageTooLarge : goal.returns-in-MessageTooLarge
unfolding refusal_tells
returns-in-MessageTooLarge c =
    let refused = c.refused-told in
    rw (number_is c.args.error refused.result refused.ensures, c.length_field.ensures, c.in-MessageTooLarge.is)

pub returns-in-VariableHeaderChecksum : goal.returns-in-VariableHeaderChecksum
unfolding refusal_tells
returns-in-VariableHeaderChecksum c =
    let refused = c.refused-told in
    rw (number_is c.args.error refused.result refused.ensures, c.in-VariableHeaderChecksum.is)

pub returns-in-PartTooLarge : goal.returns-in-PartTooLarge
unfolding refusal_tells
returns-in-PartTooLarge c =
    let refused = c.refused-told in
    rw (number_is c.args.error refused.result refused.ensures, c.in-PartTooLarge.is)

pub returns-in-PartChecksum : goal.returns-in-PartChecksum
unfolding refusal_tells
returns-in-PartChecksum c =
    let refused = c.refused-told in
    rw (number_is c.args.error refused.result refused.ensures, c.in-PartChecksum.is)

pub returns-in-NoRoom : goal.returns-in-NoRoom
unfolding refusal_tells
returns-in-NoRoom c = rw c.in-NoRoom.is

pub returns-in-BadTable : goal.returns-in-BadTable
unfolding refusal_tells
returns-in-BadTable c = rw c.in-BadTable.is
