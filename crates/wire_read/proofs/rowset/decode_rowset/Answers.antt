-- `rowset::decode_rowset` meets its contract: the first walk stops, a table is too short, or both are filled.
-- Assumes nothing.
use Rattle.std.proofs.lemmas.Result.{err_from_is_err_and}
use Rattle.wire_read.proofs.DecodeLaws.{decode_refused, decode_lies, no_rows, no_values, decode_room, decode_read}
use Rattle.wire_read.proofs.rowset.decode_rowset.Goals as goal

pub returns-then-rows-count : goal.returns-then-rows-count
returns-then-rows-count c =
    no_rows c.args.input.now c.args.rows.now c.args.values.now _ c.walk_rowset.ensures c.in_ok-walked.walked.next _ _ c.in_ok-walked.was c.read_u64-count.ensures c.if-rows-count.true

pub returns-then-room-entries : goal.returns-then-room-entries
returns-then-room-entries c =
    no_values c.args.input.now c.args.rows.now c.args.values.now _ c.walk_rowset.ensures c.in_ok-walked.walked.next _ _ c.in_ok-walked.was c.read_u64-count.ensures c.if-rows-count.false c.if-room-entries.true

pub fill_rows-requires : goal.fill_rows-requires
fill_rows-requires c = (
  decode_lies c.args.input.now c.args.rows.now c.args.values.now _ c.walk_rowset.ensures c.in_ok-walked.walked.next _ _ c.in_ok-walked.was c.read_u64-count.ensures,
  c.if-rows-count.false,
  decode_room c.args.input.now c.args.rows.now c.args.values.now _ c.walk_rowset.ensures c.in_ok-walked.walked.next _ _ c.in_ok-walked.was c.read_u64-count.ensures c.if-rows-count.false c.if-room-entries.false,
)

pub returns-in_err-walked : goal.returns-in_err-walked
returns-in_err-walked c =
    let exit = err_from_is_err_and c.from_residual.result c.from_residual.ensures.1 in
    rw (exit.1, exit.2)
    (decode_refused c.args.input.now c.args.rows.now c.args.values.now _ c.walk_rowset.ensures _ c.in_err-walked.was)

pub returns : goal.returns
returns c =
    decode_read c.args.input.now c.args.rows.now c.args.values.now _ c.walk_rowset.ensures c.in_ok-walked.walked.next _ _ c.in_ok-walked.was c.read_u64-count.ensures c.if-rows-count.false c.if-room-entries.false _ _ c.fill_rows.ensures.0 c.fill_rows.ensures.1
