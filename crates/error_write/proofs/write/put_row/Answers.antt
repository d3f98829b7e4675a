-- The contract, part by part. Assumes nothing.
use Rattle.error_write.specs.Stages.{row_bytes}
use Rattle.error_write.specs.Written.{lead, attribute_bytes}
use native.Mathlib.Omega.{arith}
use Rattle.error_write.proofs.PutLaws.{first_room, next_place, next_room, next_fits, next_put, row_none, row_is}
use Rattle.error_write.proofs.write.put_row.Goals as goal

pub returns-then-tables-k : goal.returns-then-tables-k
returns-then-tables-k c =
    row_none c.requires.0 c.args.i c.args.k c.requires.1 c.if-tables-k.true c.args.out.now

pub put_lead-at-requires : goal.put_lead-at-requires
put_lead-at-requires c =
    first_room (row_bytes c.args.tables.area.now c.args.tables.attributes.now c.args.i c.args.k) (lead 0x0a c.attribute_size.result) (attribute_bytes c.args.tables.area.now c.args.tables.attributes.now c.args.k) c.args.out.now (row_is c.requires.0 c.args.i c.args.k c.requires.1 c.if-tables-k.false c.args.out.now c.requires.2 (omega (arith, c.well_formed)) c.attribute_size.ensures) c.requires.2

pub slice_bounds-put_attribute-count : goal.slice_bounds-put_attribute-count
slice_bounds-put_attribute-count c =
    let attribute-size = c.attribute_size in
    next_place (row_bytes c.args.tables.area.now c.args.tables.attributes.now c.args.i c.args.k) (lead 0x0a attribute-size.result) (attribute_bytes c.args.tables.area.now c.args.tables.attributes.now c.args.k) c.args.out.now (row_is c.requires.0 c.args.i c.args.k c.requires.1 c.if-tables-k.false c.args.out.now c.requires.2 (omega (arith, c.well_formed)) attribute-size.ensures) c.requires.2 c.put_lead-at.new.out _ c.put_lead-at.ensures

pub slice_bounds-put_attribute-start : goal.slice_bounds-put_attribute-start
slice_bounds-put_attribute-start c =
    let attribute-size = c.attribute_size in
    next_place (row_bytes c.args.tables.area.now c.args.tables.attributes.now c.args.i c.args.k) (lead 0x0a attribute-size.result) (attribute_bytes c.args.tables.area.now c.args.tables.attributes.now c.args.k) c.args.out.now (row_is c.requires.0 c.args.i c.args.k c.requires.1 c.if-tables-k.false c.args.out.now c.requires.2 (omega (arith, c.well_formed)) attribute-size.ensures) c.requires.2 c.put_lead-at.new.out _ c.put_lead-at.ensures

pub put_attribute-requires : goal.put_attribute-requires
put_attribute-requires c =
    let attribute-size = c.attribute_size in
    let put-lead = c.put_lead-at in
    (c.requires.0, c.requires.1, next_room (row_bytes c.args.tables.area.now c.args.tables.attributes.now c.args.i c.args.k) (lead 0x0a attribute-size.result) (attribute_bytes c.args.tables.area.now c.args.tables.attributes.now c.args.k) c.args.out.now (row_is c.requires.0 c.args.i c.args.k c.requires.1 c.if-tables-k.false c.args.out.now c.requires.2 (omega (arith, c.well_formed)) attribute-size.ensures) c.requires.2 put-lead.new.out _ put-lead.ensures)

pub overflow_add-result : goal.overflow_add-result
overflow_add-result c =
    let attribute-size = c.attribute_size in
    let put-lead = c.put_lead-at in
    omega (arith, next_fits (row_bytes c.args.tables.area.now c.args.tables.attributes.now c.args.i c.args.k) (lead 0x0a attribute-size.result) (attribute_bytes c.args.tables.area.now c.args.tables.attributes.now c.args.k) c.args.out.now (row_is c.requires.0 c.args.i c.args.k c.requires.1 c.if-tables-k.false c.args.out.now c.requires.2 (omega (arith, c.well_formed)) attribute-size.ensures) c.requires.2 put-lead.new.out _ put-lead.ensures c.put_attribute.ensures.0)

pub returns : goal.returns
returns c =
    let attribute-size = c.attribute_size in
    let put-lead = c.put_lead-at in
    next_put (row_bytes c.args.tables.area.now c.args.tables.attributes.now c.args.i c.args.k) (lead 0x0a attribute-size.result) (attribute_bytes c.args.tables.area.now c.args.tables.attributes.now c.args.k) c.args.out.now (row_is c.requires.0 c.args.i c.args.k c.requires.1 c.if-tables-k.false c.args.out.now c.requires.2 (omega (arith, c.well_formed)) attribute-size.ensures) c.requires.2 put-lead.new.out _ put-lead.ensures c.put_attribute.new.out _ c.put_attribute.ensures
