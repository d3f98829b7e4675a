-- `waited` meets its contract: the fixed header, or the length that the reader refuses under a limit of what is there.
-- Assumes nothing.
use Rattle.why_packet.proofs.TellLaws.{more_fixed, more_length}
use Rattle.why_packet.proofs.waited.Goals as goal

pub returns-then-input-lt-FIXED_HEADER_SIZE : goal.returns-then-input-lt-FIXED_HEADER_SIZE
returns-then-input-lt-FIXED_HEADER_SIZE c =
    let start' = c in
    more_fixed start'.args.input.now start'.args.count c.if-input-lt-FIXED_HEADER_SIZE.true

pub returns : goal.returns
returns c =
    let start = c in
    let read = c.decode_with in
    more_length start.args.input.now start.args.count start.args.mode start.args.max_part_count start.requires c.if-input-lt-FIXED_HEADER_SIZE.false start.args.none.now read.result _ read.ensures c.outcome-told.result _ c.outcome-told.ensures c.length_field.ensures
