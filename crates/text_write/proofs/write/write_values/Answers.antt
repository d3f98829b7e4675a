-- `write::write_values` meets its contract. The invariant: what is still to come goes behind what stands in front. Assumes nothing.
use native.Mathlib.Nat.{sub-zero}
use native.Mathlib.Omega.{arith}
use Rattle.wire_write.proofs.FillingLaws.{begins, length_now}
use Rattle.text_write.proofs.PutLaws.{values_done, entry_within, entry_room, separator_within, separator_length, values_step}
use Rattle.text_write.proofs.write.write_values.Goals as goal

pub loop-n-init : goal.loop-n-init
loop-n-init c =
    let start' = c in
    rw (sub-zero c.args.count) (start'.requires.1, start'.requires.2, begins _ _ start'.requires.3)

pub slice_bounds-write_entry-count : goal.slice_bounds-write_entry-count
slice_bounds-write_entry-count c = entry_within _ _ _ _ _ _ _ _ _ c.loop-n.invariant (omega arith)

pub slice_bounds-write_entry-start : goal.slice_bounds-write_entry-start
slice_bounds-write_entry-start c = entry_within _ _ _ _ _ _ _ _ _ c.loop-n.invariant (omega arith)

pub write_entry-at-requires : goal.write_entry-at-requires
write_entry-at-requires c = (omega arith, c.requires.0 c.loop-n.k (omega arith) (omega arith), entry_room _ _ _ _ _ _ _ _ _ c.loop-n.invariant (omega arith))

pub overflow_add-at : goal.overflow_add-at
overflow_add-at c =
    let turn = c in
    omega (arith, separator_within _ _ _ _ _ _ _ _ _ turn.loop-n.invariant (omega arith) c.write_entry-at.new.out c.write_entry-at.result c.write_entry-at.ensures, separator_length _ _ _ _ _ _ _ _ _ turn.loop-n.invariant (omega arith) c.write_entry-at.new.out c.write_entry-at.result c.write_entry-at.ensures, c.well_formed)

pub bounds-out-at : goal.bounds-out-at
bounds-out-at c =
    let write-entry = c.write_entry-at in
    separator_within _ _ _ _ _ _ _ _ _ c.loop-n.invariant (omega arith) write-entry.new.out write-entry.result write-entry.ensures

pub overflow_add-at-in-loop-n : goal.overflow_add-at-in-loop-n
overflow_add-at-in-loop-n c =
    let turn = c in
    let write-entry = c.write_entry-at in
    omega (arith, separator_within _ _ _ _ _ _ _ _ _ turn.loop-n.invariant (omega arith) write-entry.new.out write-entry.result write-entry.ensures, separator_length _ _ _ _ _ _ _ _ _ turn.loop-n.invariant (omega arith) write-entry.new.out write-entry.result write-entry.ensures, c.well_formed)

pub loop-n-preserved : goal.loop-n-preserved
loop-n-preserved c =
    let write-entry = c.write_entry-at in
    values_step _ _ _ _ _ _ _ _ _ c.loop-n.invariant (omega arith) write-entry.new.out write-entry.result write-entry.ensures _ c.separator.ensures _ (omega arith)

pub shape_of-out : goal.shape_of-out
shape_of-out c = length_now c.loop-n.invariant.2

pub returns : goal.returns
returns c = values_done _ _ _ _ _ _ _ _ _ c.loop-n.invariant (omega arith)
