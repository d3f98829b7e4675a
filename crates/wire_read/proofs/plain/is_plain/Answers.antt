-- `plain::is_plain` meets its contract: too large, not accepted, or as the rows tell. Assumes nothing.
use Rattle.wire_read.proofs.PlainLaws.{plain_large, plain_refused, plain_lies, plain_accepted}
use Rattle.wire_read.proofs.plain.is_plain.Goals as goal

pub returns-then-input-gt-MAX_ROWSET_SIZE : goal.returns-then-input-gt-MAX_ROWSET_SIZE
returns-then-input-gt-MAX_ROWSET_SIZE c = plain_large c.args.input.now c.if-input-gt-MAX_ROWSET_SIZE.true

pub plain_rows-requires : goal.plain_rows-requires
plain_rows-requires c = plain_lies c.args.input.now c.if-input-gt-MAX_ROWSET_SIZE.false _ c.walk_rowset.ensures c.in-Ok.field-0.next c.in-Ok.field-0.values _ c.in-Ok.is c.read_u64.ensures

pub returns-in-Err : goal.returns-in-Err
returns-in-Err c = plain_refused c.args.input.now c.if-input-gt-MAX_ROWSET_SIZE.false _ c.walk_rowset.ensures _ c.in-Err.is

pub returns-in-Ok : goal.returns-in-Ok
returns-in-Ok c = plain_accepted c.args.input.now c.if-input-gt-MAX_ROWSET_SIZE.false _ c.walk_rowset.ensures c.in-Ok.field-0.next c.in-Ok.field-0.values _ c.in-Ok.is c.read_u64.ensures _ c.plain_rows.ensures
