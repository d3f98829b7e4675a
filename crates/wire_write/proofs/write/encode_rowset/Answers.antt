-- `write::encode_rowset` meets its contract: the checks refuse, the room is short, or the row count and the rows are written.
-- Assumes nothing.
use Rattle.std.proofs.lemmas.Result.{err_from_is_err_and}
use Rattle.wire_write.proofs.BytesLaws.{count_within, rows_room, rowset_puts}
use Rattle.wire_write.proofs.EncodeLaws.{encode_refused, encode_short, tables_good, tables_whole, rowset_room, encode_written}
use Rattle.wire_write.proofs.write.encode_rowset.Goals as goal

pub returns-then-out-size : goal.returns-then-out-size
returns-then-out-size c = encode_short c.args.area.now c.args.rows.now c.args.values.now c.args.out.now c.encoded_size.result c.encoded_size.ensures.fits _ c.in_ok-size.was c.if-out-size.true

pub slice_bounds-write_rows-count : goal.slice_bounds-write_rows-count
slice_bounds-write_rows-count c = count_within c.args.area.now c.args.rows.now c.args.values.now c.args.out.now (rowset_room c.args.area.now c.args.rows.now c.args.values.now c.args.out.now c.encoded_size.result c.encoded_size.ensures.fits _ c.in_ok-size.was c.if-out-size.false) c.write_u64.new.out c.write_u64.ensures

pub slice_bounds-write_rows-start : goal.slice_bounds-write_rows-start
slice_bounds-write_rows-start c = count_within c.args.area.now c.args.rows.now c.args.values.now c.args.out.now (rowset_room c.args.area.now c.args.rows.now c.args.values.now c.args.out.now c.encoded_size.result c.encoded_size.ensures.fits _ c.in_ok-size.was c.if-out-size.false) c.write_u64.new.out c.write_u64.ensures

pub write_rows-requires : goal.write_rows-requires
write_rows-requires c = (tables_good c.args.area.now c.args.rows.now c.args.values.now c.args.out.now c.encoded_size.result c.encoded_size.ensures.fits _ c.in_ok-size.was, tables_whole c.args.area.now c.args.rows.now c.args.values.now c.args.out.now c.encoded_size.result c.encoded_size.ensures.fits _ c.in_ok-size.was, rows_room c.args.area.now c.args.rows.now c.args.values.now c.args.out.now (rowset_room c.args.area.now c.args.rows.now c.args.values.now c.args.out.now c.encoded_size.result c.encoded_size.ensures.fits _ c.in_ok-size.was c.if-out-size.false) c.write_u64.new.out c.write_u64.ensures)

pub returns-in_err-size : goal.returns-in_err-size
returns-in_err-size c =
    let exit = err_from_is_err_and c.from_residual.result c.from_residual.ensures.1 in
    rw (exit.1, exit.2)
    (encode_refused c.args.area.now c.args.rows.now c.args.values.now c.args.out.now c.encoded_size.result c.encoded_size.ensures.fits _ c.in_err-size.was)

pub returns : goal.returns
returns c = encode_written c.args.area.now c.args.rows.now c.args.values.now c.args.out.now c.encoded_size.result c.encoded_size.ensures.fits _ c.in_ok-size.was c.if-out-size.false _ _ (rowset_puts c.args.area.now c.args.rows.now c.args.values.now c.args.out.now (rowset_room c.args.area.now c.args.rows.now c.args.values.now c.args.out.now c.encoded_size.result c.encoded_size.ensures.fits _ c.in_ok-size.was c.if-out-size.false) c.write_u64.new.out c.write_u64.ensures c.write_rows.new.out c.write_rows.result c.write_rows.ensures)
