-- `explain_with` meets its contract: what the reader's answer tells is what its order tells. Assumes nothing.
use Rattle.why_packet.proofs.TellLaws.{read_fine, more_waits, more_explains, refusal_inside, refusal_explains}
use Rattle.why_packet.proofs.explain_with.Goals as goal

pub waited-requires : goal.waited-requires
waited-requires c =
    let read_u32 = c.read_u32-count in
    let read = c.decode_with in
    more_waits c.args.input.now c.args.mode c.args.max_message_size c.args.max_part_count c.args.none.now read.result _ read.ensures read_u32.result read_u32.ensures (rw c.in-Ok-None.field-0-is at c.in-Ok-None.is)

pub refusal-requires : goal.refusal-requires
refusal-requires c =
    let read_u32 = c.read_u32-count in
    let read = c.decode_with in
    refusal_inside c.args.input.now c.args.mode c.args.max_message_size c.args.max_part_count c.args.none.now read.result _ read.ensures read_u32.result read_u32.ensures _ _ c.in-Err.is

pub returns-in-Ok-Some : goal.returns-in-Ok-Some
returns-in-Ok-Some c =
    let read = c.decode_with in
    read_fine c.args.input.now c.args.mode c.args.max_message_size c.args.max_part_count c.args.none.now read.result _ read.ensures _ (rw c.in-Ok-Some.field-0-is at c.in-Ok-Some.is)

pub returns-in-Ok-None : goal.returns-in-Ok-None
returns-in-Ok-None c =
    let read_u32 = c.read_u32-count in
    let read = c.decode_with in
    more_explains c.args.input.now c.args.mode c.args.max_message_size c.args.max_part_count c.args.none.now read.result _ read.ensures read_u32.result read_u32.ensures _ (rw c.in-Ok-None.field-0-is at c.in-Ok-None.is) c.waited.ensures

pub returns-in-Err : goal.returns-in-Err
returns-in-Err c =
    let read_u32 = c.read_u32-count in
    let read = c.decode_with in
    refusal_explains c.args.input.now c.args.mode c.args.max_message_size c.args.max_part_count c.args.none.now read.result _ read.ensures read_u32.result read_u32.ensures _ _ _ c.in-Err.is c.refusal.ensures
