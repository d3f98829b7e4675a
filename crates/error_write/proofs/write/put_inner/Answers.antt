-- The bytes, one part behind the other. Assumes nothing.
use Rattle.error_write.specs.Written.{lead, own_bytes}
use mathlib.Core.List.{◌++◌}
use mathlib.Core.Path.{refl}
use native.Mathlib.Omega.{arith}
use Rattle.error_write.proofs.PutLaws.{first_room, next_place, next_room, next_fits, next_put}
use Rattle.error_write.proofs.write.put_inner.Goals as goal

pub put_lead-at-requires : goal.put_lead-at-requires
put_lead-at-requires c =
    first_room (lead 0x22 c.args.body ++ own_bytes c.args.tables.area.now c.args.tables.errors.now c.args.tables.attributes.now c.args.entry.number) (lead 0x22 c.args.body) (own_bytes c.args.tables.area.now c.args.tables.errors.now c.args.tables.attributes.now c.args.entry.number) c.args.out.now refl c.requires.4

pub slice_bounds-put_own-count : goal.slice_bounds-put_own-count
slice_bounds-put_own-count c =
    next_place (lead 0x22 c.args.body ++ own_bytes c.args.tables.area.now c.args.tables.errors.now c.args.tables.attributes.now c.args.entry.number) (lead 0x22 c.args.body) (own_bytes c.args.tables.area.now c.args.tables.errors.now c.args.tables.attributes.now c.args.entry.number) c.args.out.now refl c.requires.4 c.put_lead-at.new.out _ c.put_lead-at.ensures

pub slice_bounds-put_own-start : goal.slice_bounds-put_own-start
slice_bounds-put_own-start c =
    next_place (lead 0x22 c.args.body ++ own_bytes c.args.tables.area.now c.args.tables.errors.now c.args.tables.attributes.now c.args.entry.number) (lead 0x22 c.args.body) (own_bytes c.args.tables.area.now c.args.tables.errors.now c.args.tables.attributes.now c.args.entry.number) c.args.out.now refl c.requires.4 c.put_lead-at.new.out _ c.put_lead-at.ensures

pub put_own-requires : goal.put_own-requires
put_own-requires c =
    let put-lead = c.put_lead-at in
    (c.requires.0, c.requires.1, c.requires.2, c.requires.3, next_room (lead 0x22 c.args.body ++ own_bytes c.args.tables.area.now c.args.tables.errors.now c.args.tables.attributes.now c.args.entry.number) (lead 0x22 c.args.body) (own_bytes c.args.tables.area.now c.args.tables.errors.now c.args.tables.attributes.now c.args.entry.number) c.args.out.now refl c.requires.4 put-lead.new.out _ put-lead.ensures)

pub overflow_add-result : goal.overflow_add-result
overflow_add-result c =
    let put-lead = c.put_lead-at in
    omega (arith, next_fits (lead 0x22 c.args.body ++ own_bytes c.args.tables.area.now c.args.tables.errors.now c.args.tables.attributes.now c.args.entry.number) (lead 0x22 c.args.body) (own_bytes c.args.tables.area.now c.args.tables.errors.now c.args.tables.attributes.now c.args.entry.number) c.args.out.now refl c.requires.4 put-lead.new.out _ put-lead.ensures c.put_own.ensures.0)

pub returns : goal.returns
returns c =
    let put-lead = c.put_lead-at in
    next_put (lead 0x22 c.args.body ++ own_bytes c.args.tables.area.now c.args.tables.errors.now c.args.tables.attributes.now c.args.entry.number) (lead 0x22 c.args.body) (own_bytes c.args.tables.area.now c.args.tables.errors.now c.args.tables.attributes.now c.args.entry.number) c.args.out.now refl c.requires.4 put-lead.new.out _ put-lead.ensures c.put_own.new.out _ c.put_own.ensures
