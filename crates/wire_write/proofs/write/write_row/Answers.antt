-- `write::write_row` meets its contract: the row's word, then its values.
-- Assumes nothing.
use native.Mathlib.Omega.{arith}
use Rattle.wire_write.proofs.BytesLaws.{word_within, values_room, row_puts}
use Rattle.wire_write.proofs.write.write_row.Goals as goal

pub slice_bounds-write_values-count : goal.slice_bounds-write_values-count
slice_bounds-write_values-count c = word_within c.args.area.now c.args.values.now c.args.count c.args.k c.args.out.now c.requires.3 c.write_u64.new.out c.write_u64.ensures c.values_in-n.result c.values_in-n.ensures

pub slice_bounds-write_values-start : goal.slice_bounds-write_values-start
slice_bounds-write_values-start c = word_within c.args.area.now c.args.values.now c.args.count c.args.k c.args.out.now c.requires.3 c.write_u64.new.out c.write_u64.ensures c.values_in-n.result c.values_in-n.ensures

pub write_values-size-requires : goal.write_values-size-requires
write_values-size-requires c = (c.requires.0, c.requires.1, omega (arith, c.requires.2, c.values_in-n.ensures), values_room c.args.area.now c.args.values.now c.args.count c.args.k c.args.out.now c.requires.3 c.write_u64.new.out c.write_u64.ensures c.values_in-n.result c.values_in-n.ensures)

pub overflow_add-result : goal.overflow_add-result
overflow_add-result c = omega (arith, (row_puts c.args.area.now c.args.values.now c.args.count c.args.k c.args.out.now c.requires.3 c.write_u64.new.out c.write_u64.ensures c.values_in-n.result c.values_in-n.ensures c.write_values-size.new.out c.write_values-size.result c.write_values-size.ensures).0, c.requires.3, c.well_formed)

pub returns : goal.returns
returns c = row_puts c.args.area.now c.args.values.now c.args.count c.args.k c.args.out.now c.requires.3 c.write_u64.new.out c.write_u64.ensures c.values_in-n.result c.values_in-n.ensures c.write_values-size.new.out c.write_values-size.result c.write_values-size.ensures
