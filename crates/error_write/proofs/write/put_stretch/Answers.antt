-- The contract, part by part. Assumes nothing.
use native.Mathlib.Omega.{arith}
use Rattle.error_write.proofs.PutLaws.{stretch_lead, stretch_place, stretch_fits, stretch_put}
use Rattle.error_write.proofs.write.put_stretch.Goals as goal

pub put_lead-at-requires : goal.put_lead-at-requires
put_lead-at-requires c =
    stretch_lead c.args.tag c.args.area.now c.args.offset c.args.size c.requires.0 c.args.out.now c.requires.1

pub slice_bounds-write_bytes-count : goal.slice_bounds-write_bytes-count
slice_bounds-write_bytes-count c =
    stretch_place c.args.tag c.args.area.now c.args.offset c.args.size c.requires.0 c.args.out.now c.requires.1 c.put_lead-at.new.out _ c.put_lead-at.ensures

pub slice_bounds-write_bytes-start : goal.slice_bounds-write_bytes-start
slice_bounds-write_bytes-start c =
    stretch_place c.args.tag c.args.area.now c.args.offset c.args.size c.requires.0 c.args.out.now c.requires.1 c.put_lead-at.new.out _ c.put_lead-at.ensures

pub overflow_add-result : goal.overflow_add-result
overflow_add-result c =
    let put-lead = c.put_lead-at in
    omega (arith, stretch_fits c.args.tag c.args.area.now c.args.offset c.args.size c.requires.0 c.args.out.now c.requires.1 put-lead.new.out _ put-lead.ensures)

pub returns : goal.returns
returns c =
    let put-lead = c.put_lead-at in
    stretch_put c.args.tag c.args.area.now c.args.offset c.args.size c.requires.0 c.args.out.now c.requires.1 put-lead.new.out _ put-lead.ensures c.write_bytes.new.out c.write_bytes.ensures
