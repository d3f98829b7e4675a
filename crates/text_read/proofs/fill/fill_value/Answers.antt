-- `fill::fill_value` meets its contract: the five words of the entry, stored one after the other. Assumes nothing.
use native.Mathlib.Omega.{arith}
use lib.ListN.{length-set}
use Rattle.text_read.proofs.ValueLaws.{entry_room, head_has, payload_has, end_there, value_fills}
use Rattle.text_read.proofs.fill.fill_value.Goals as goal

pub read_head-head-requires : goal.read_head-head-requires
read_head-head-requires c = let start = c in head_has start.args.text.now start.args.at start.args.first start.args.values.now start.args.k start.args.area.now start.args.used start.requires

pub read_payload-payload-requires : goal.read_payload-payload-requires
read_payload-payload-requires c = let start = c in payload_has start.args.text.now start.args.at start.args.first start.args.values.now start.args.k start.args.area.now start.args.used start.requires c.read_head-head.result c.read_head-head.ensures

pub offset_bounds-values-k : goal.offset_bounds-values-k
offset_bounds-values-k c = let start = c in omega (arith, entry_room start.args.text.now start.args.at start.args.first start.args.values.now start.args.k start.args.area.now start.args.used start.requires, start.well_formed)

pub bounds-values-k : goal.bounds-values-k
bounds-values-k c = let start = c in omega (arith, entry_room start.args.text.now start.args.at start.args.first start.args.values.now start.args.k start.args.area.now start.args.used start.requires, start.well_formed)

pub overflow_add-values : goal.overflow_add-values
overflow_add-values c = let start = c in omega (arith, entry_room start.args.text.now start.args.at start.args.first start.args.values.now start.args.k start.args.area.now start.args.used start.requires, start.well_formed)

pub offset_bounds-values-k-2 : goal.offset_bounds-values-k-2
offset_bounds-values-k-2 c = let start = c in omega (arith, entry_room start.args.text.now start.args.at start.args.first start.args.values.now start.args.k start.args.area.now start.args.used start.requires, start.well_formed)

pub bounds-values-k-2 : goal.bounds-values-k-2
bounds-values-k-2 c = let start = c in let room = entry_room start.args.text.now start.args.at start.args.first start.args.values.now start.args.k start.args.area.now start.args.used start.requires in simp length-set (omega (arith, room))

pub overflow_add-values-2 : goal.overflow_add-values-2
overflow_add-values-2 c = let start = c in omega (arith, entry_room start.args.text.now start.args.at start.args.first start.args.values.now start.args.k start.args.area.now start.args.used start.requires, start.well_formed)

pub offset_bounds-values-k-3 : goal.offset_bounds-values-k-3
offset_bounds-values-k-3 c = let start = c in omega (arith, entry_room start.args.text.now start.args.at start.args.first start.args.values.now start.args.k start.args.area.now start.args.used start.requires, start.well_formed)

pub bounds-values-k-3 : goal.bounds-values-k-3
bounds-values-k-3 c = let start = c in let room = entry_room start.args.text.now start.args.at start.args.first start.args.values.now start.args.k start.args.area.now start.args.used start.requires in simp length-set (omega (arith, room))

pub overflow_add-values-3 : goal.overflow_add-values-3
overflow_add-values-3 c = let start = c in omega (arith, entry_room start.args.text.now start.args.at start.args.first start.args.values.now start.args.k start.args.area.now start.args.used start.requires, start.well_formed)

pub offset_bounds-values-k-4 : goal.offset_bounds-values-k-4
offset_bounds-values-k-4 c = let start = c in omega (arith, entry_room start.args.text.now start.args.at start.args.first start.args.values.now start.args.k start.args.area.now start.args.used start.requires, start.well_formed)

pub bounds-values-k-4 : goal.bounds-values-k-4
bounds-values-k-4 c = let start = c in let room = entry_room start.args.text.now start.args.at start.args.first start.args.values.now start.args.k start.args.area.now start.args.used start.requires in simp length-set (omega (arith, room))

pub overflow_add-values-4 : goal.overflow_add-values-4
overflow_add-values-4 c = let start = c in omega (arith, entry_room start.args.text.now start.args.at start.args.first start.args.values.now start.args.k start.args.area.now start.args.used start.requires, start.well_formed)

pub offset_bounds-values-k-5 : goal.offset_bounds-values-k-5
offset_bounds-values-k-5 c = let start = c in omega (arith, entry_room start.args.text.now start.args.at start.args.first start.args.values.now start.args.k start.args.area.now start.args.used start.requires, start.well_formed)

pub bounds-values-k-5 : goal.bounds-values-k-5
bounds-values-k-5 c = let start = c in let room = entry_room start.args.text.now start.args.at start.args.first start.args.values.now start.args.k start.args.area.now start.args.used start.requires in simp length-set (omega (arith, room))

pub overflow_add-result : goal.overflow_add-result
overflow_add-result c = let start = c in omega (arith, end_there start.args.text.now start.args.at start.args.first start.args.values.now start.args.k start.args.area.now start.args.used start.requires _ c.read_head-head.ensures _ _ c.read_payload-payload.ensures, start.well_formed)

pub bounds-text-end : goal.bounds-text-end
bounds-text-end c = let start = c in end_there start.args.text.now start.args.at start.args.first start.args.values.now start.args.k start.args.area.now start.args.used start.requires _ c.read_head-head.ensures _ _ c.read_payload-payload.ensures

pub returns : goal.returns
returns c = let start = c in value_fills start.args.text.now start.args.at start.args.first start.args.values.now start.args.k start.args.area.now start.args.used start.requires _ c.read_head-head.ensures _ _ c.read_payload-payload.ensures
