-- `write::write_blob` meets its contract: the blob's bytes, then its zeros.
-- Assumes nothing.
use Rattle.wire_write.proofs.BytesLaws.{blob_within, blob_puts}
use Rattle.wire_write.proofs.write.write_blob.Goals as goal

pub slice_bounds-write_zeros-count : goal.slice_bounds-write_zeros-count
slice_bounds-write_zeros-count c = blob_within c.args.area.now c.args.out.now c.args.offset c.args.length c.requires.0 c.requires.1 c.write_bytes.new.out c.write_bytes.ensures

pub slice_bounds-write_zeros-start : goal.slice_bounds-write_zeros-start
slice_bounds-write_zeros-start c = blob_within c.args.area.now c.args.out.now c.args.offset c.args.length c.requires.0 c.requires.1 c.write_bytes.new.out c.write_bytes.ensures

pub returns : goal.returns
returns c = blob_puts c.args.area.now c.args.out.now c.args.offset c.args.length c.requires.0 c.requires.1 c.write_bytes.new.out c.write_bytes.ensures c.write_zeros.new.out c.write_zeros.ensures
