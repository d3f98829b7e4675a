-- The bytes, one part behind the other. Assumes nothing.
use Rattle.error_write.specs.Written.{lead, all_rows, entries_bytes, dictionary_bytes}
use native.Mathlib.Omega.{arith}
use Rattle.error_write.proofs.PutLaws.{first_room, next_place, next_room, next_fits, next_put, dictionary_none_put, dictionary_is}
use Rattle.error_write.proofs.write.put_dictionary.Goals as goal

pub returns-then-entry-eq0 : goal.returns-then-entry-eq0
returns-then-entry-eq0 c =
    dictionary_none_put (entries_bytes c.args.tables.area.now c.args.tables.attributes.now (all_rows c.args.tables.attributes.now c.args.entry.number)) c.args.entry.size c.requires.2 c.if-entry-eq0.true c.args.out.now

pub put_lead-at-requires : goal.put_lead-at-requires
put_lead-at-requires c =
    first_room (dictionary_bytes (entries_bytes c.args.tables.area.now c.args.tables.attributes.now (all_rows c.args.tables.attributes.now c.args.entry.number))) (lead 0x1a c.args.entry.size) (entries_bytes c.args.tables.area.now c.args.tables.attributes.now (all_rows c.args.tables.attributes.now c.args.entry.number)) c.args.out.now (dictionary_is (entries_bytes c.args.tables.area.now c.args.tables.attributes.now (all_rows c.args.tables.attributes.now c.args.entry.number)) c.args.entry.size c.requires.2 c.if-entry-eq0.false) c.requires.3

pub slice_bounds-put_entries-count : goal.slice_bounds-put_entries-count
slice_bounds-put_entries-count c =
    next_place (dictionary_bytes (entries_bytes c.args.tables.area.now c.args.tables.attributes.now (all_rows c.args.tables.attributes.now c.args.entry.number))) (lead 0x1a c.args.entry.size) (entries_bytes c.args.tables.area.now c.args.tables.attributes.now (all_rows c.args.tables.attributes.now c.args.entry.number)) c.args.out.now (dictionary_is (entries_bytes c.args.tables.area.now c.args.tables.attributes.now (all_rows c.args.tables.attributes.now c.args.entry.number)) c.args.entry.size c.requires.2 c.if-entry-eq0.false) c.requires.3 c.put_lead-at.new.out _ c.put_lead-at.ensures

pub slice_bounds-put_entries-start : goal.slice_bounds-put_entries-start
slice_bounds-put_entries-start c =
    next_place (dictionary_bytes (entries_bytes c.args.tables.area.now c.args.tables.attributes.now (all_rows c.args.tables.attributes.now c.args.entry.number))) (lead 0x1a c.args.entry.size) (entries_bytes c.args.tables.area.now c.args.tables.attributes.now (all_rows c.args.tables.attributes.now c.args.entry.number)) c.args.out.now (dictionary_is (entries_bytes c.args.tables.area.now c.args.tables.attributes.now (all_rows c.args.tables.attributes.now c.args.entry.number)) c.args.entry.size c.requires.2 c.if-entry-eq0.false) c.requires.3 c.put_lead-at.new.out _ c.put_lead-at.ensures

pub put_entries-requires : goal.put_entries-requires
put_entries-requires c =
    let put-lead = c.put_lead-at in
    (c.requires.0, c.requires.1, next_room (dictionary_bytes (entries_bytes c.args.tables.area.now c.args.tables.attributes.now (all_rows c.args.tables.attributes.now c.args.entry.number))) (lead 0x1a c.args.entry.size) (entries_bytes c.args.tables.area.now c.args.tables.attributes.now (all_rows c.args.tables.attributes.now c.args.entry.number)) c.args.out.now (dictionary_is (entries_bytes c.args.tables.area.now c.args.tables.attributes.now (all_rows c.args.tables.attributes.now c.args.entry.number)) c.args.entry.size c.requires.2 c.if-entry-eq0.false) c.requires.3 put-lead.new.out _ put-lead.ensures)

pub overflow_add-result : goal.overflow_add-result
overflow_add-result c =
    let put-lead = c.put_lead-at in
    omega (arith, next_fits (dictionary_bytes (entries_bytes c.args.tables.area.now c.args.tables.attributes.now (all_rows c.args.tables.attributes.now c.args.entry.number))) (lead 0x1a c.args.entry.size) (entries_bytes c.args.tables.area.now c.args.tables.attributes.now (all_rows c.args.tables.attributes.now c.args.entry.number)) c.args.out.now (dictionary_is (entries_bytes c.args.tables.area.now c.args.tables.attributes.now (all_rows c.args.tables.attributes.now c.args.entry.number)) c.args.entry.size c.requires.2 c.if-entry-eq0.false) c.requires.3 put-lead.new.out _ put-lead.ensures c.put_entries.ensures.0)

pub returns : goal.returns
returns c =
    let put-lead = c.put_lead-at in
    next_put (dictionary_bytes (entries_bytes c.args.tables.area.now c.args.tables.attributes.now (all_rows c.args.tables.attributes.now c.args.entry.number))) (lead 0x1a c.args.entry.size) (entries_bytes c.args.tables.area.now c.args.tables.attributes.now (all_rows c.args.tables.attributes.now c.args.entry.number)) c.args.out.now (dictionary_is (entries_bytes c.args.tables.area.now c.args.tables.attributes.now (all_rows c.args.tables.attributes.now c.args.entry.number)) c.args.entry.size c.requires.2 c.if-entry-eq0.false) c.requires.3 put-lead.new.out _ put-lead.ensures c.put_entries.new.out _ c.put_entries.ensures
