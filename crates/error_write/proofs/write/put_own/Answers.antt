-- The bytes, one part behind the other. Assumes nothing.
use Rattle.error_table.proofs.SoundLaws.{text_inside}
use native.Mathlib.Omega.{arith}
use Rattle.error_write.proofs.PutLaws.{code_room, text_place, text_room_lem, text_fits, dictionary_place, dictionary_room, own_fits, own_put}
use Rattle.error_write.proofs.write.put_own.Goals as goal

pub put_lead-code-requires : goal.put_lead-code-requires
put_lead-code-requires c =
    code_room c.args.tables.area.now c.args.tables.errors.now c.args.tables.attributes.now c.args.entry.number c.args.out.now c.requires.4

pub slice_bounds-put_stretch-count : goal.slice_bounds-put_stretch-count
slice_bounds-put_stretch-count c =
    text_place c.args.tables.area.now c.args.tables.errors.now c.args.tables.attributes.now c.args.entry.number c.args.out.now c.requires.4 c.put_lead-code.new.out _ c.put_lead-code.ensures

pub slice_bounds-put_stretch-start : goal.slice_bounds-put_stretch-start
slice_bounds-put_stretch-start c =
    text_place c.args.tables.area.now c.args.tables.errors.now c.args.tables.attributes.now c.args.entry.number c.args.out.now c.requires.4 c.put_lead-code.new.out _ c.put_lead-code.ensures

pub put_stretch-requires : goal.put_stretch-requires
put_stretch-requires c =
    let put-lead = c.put_lead-code in
    (text_inside c.requires.0 _ c.requires.1, text_room_lem c.args.tables.area.now c.args.tables.errors.now c.args.tables.attributes.now c.args.entry.number c.args.out.now c.requires.4 put-lead.new.out _ put-lead.ensures)

pub overflow_add-text : goal.overflow_add-text
overflow_add-text c =
    let put-lead = c.put_lead-code in
    omega (arith, text_fits c.args.tables.area.now c.args.tables.errors.now c.args.tables.attributes.now c.args.entry.number c.args.out.now c.requires.4 put-lead.new.out _ put-lead.ensures c.put_stretch.new.out _ c.put_stretch.ensures)

pub slice_bounds-put_dictionary-count : goal.slice_bounds-put_dictionary-count
slice_bounds-put_dictionary-count c =
    let put-lead = c.put_lead-code in
    dictionary_place c.args.tables.area.now c.args.tables.errors.now c.args.tables.attributes.now c.args.entry.number c.args.out.now c.requires.4 put-lead.new.out _ put-lead.ensures c.put_stretch.new.out _ c.put_stretch.ensures

pub slice_bounds-put_dictionary-start : goal.slice_bounds-put_dictionary-start
slice_bounds-put_dictionary-start c =
    let put-lead = c.put_lead-code in
    dictionary_place c.args.tables.area.now c.args.tables.errors.now c.args.tables.attributes.now c.args.entry.number c.args.out.now c.requires.4 put-lead.new.out _ put-lead.ensures c.put_stretch.new.out _ c.put_stretch.ensures

pub put_dictionary-requires : goal.put_dictionary-requires
put_dictionary-requires c =
    let put-lead = c.put_lead-code in
    let put-stretch = c.put_stretch in
    (c.requires.0, c.requires.2, c.requires.3, dictionary_room c.args.tables.area.now c.args.tables.errors.now c.args.tables.attributes.now c.args.entry.number c.args.out.now c.requires.4 put-lead.new.out _ put-lead.ensures put-stretch.new.out _ put-stretch.ensures)

pub overflow_add-result : goal.overflow_add-result
overflow_add-result c =
    let put-lead = c.put_lead-code in
    let put-stretch = c.put_stretch in
    omega (arith, own_fits c.args.tables.area.now c.args.tables.errors.now c.args.tables.attributes.now c.args.entry.number c.args.out.now c.requires.4 put-lead.new.out _ put-lead.ensures put-stretch.new.out _ put-stretch.ensures c.put_dictionary.ensures.0)

pub returns : goal.returns
returns c =
    let put-lead = c.put_lead-code in
    let put-stretch = c.put_stretch in
    own_put c.args.tables.area.now c.args.tables.errors.now c.args.tables.attributes.now c.args.entry.number c.args.out.now c.requires.4 put-lead.new.out _ put-lead.ensures put-stretch.new.out _ put-stretch.ensures c.put_dictionary.new.out _ c.put_dictionary.ensures
