-- The contract, part by part. Assumes nothing.
use Rattle.error_write.proofs.PutLaws.{lead_place, lead_put}
use Rattle.error_write.proofs.write.put_lead.Goals as goal

pub slice_bounds-write_varint-count : goal.slice_bounds-write_varint-count
slice_bounds-write_varint-count c = lead_place c.args.tag c.args.n c.args.out.now c.requires

pub slice_bounds-write_varint-start : goal.slice_bounds-write_varint-start
slice_bounds-write_varint-start c = lead_place c.args.tag c.args.n c.args.out.now c.requires

pub returns : goal.returns
returns c =
    lead_put c.args.tag c.args.n c.args.out.now c.requires c.write_varint.new.out _ c.write_varint.ensures.0 c.write_varint.ensures.1
