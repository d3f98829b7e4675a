-- `write::write_values` meets its contract. The invariant: what is still to come goes behind what stands in front.
-- Assumes nothing.
use Prim.Native.Nat.{ℕ, ◌+◌, ◌-◌}
use mathlib.Core.Path.{◌≡◌, subst}
use native.Mathlib.Nat.{sub-zero}
use lib.ListN.{length}
use borrow.Rule.Slice.PartMut.{put_mid}
use native.Mathlib.Omega.{arith}
use Rattle.wire.specs.Layout.{entry_words}
use Rattle.wire_write.proofs.FillingLaws.{begins, length_now, room_left}
use Rattle.wire_write.proofs.BytesLaws.{ValuesToGo, entry_within, entry_room, values_step, values_done}
use Rattle.wire_write.proofs.write.write_values.Goals as goal

pub loop-n-init : goal.loop-n-init
loop-n-init c = rw (sub-zero c.args.count) (c.requires.1, c.requires.2, begins _ _ c.requires.3)

pub slice_bounds-write_entry-count : goal.slice_bounds-write_entry-count
slice_bounds-write_entry-count c = entry_within _ _ _ _ _ _ _ _ _ c.loop-n.invariant (omega arith)

pub slice_bounds-write_entry-start : goal.slice_bounds-write_entry-start
slice_bounds-write_entry-start c = entry_within _ _ _ _ _ _ _ _ _ c.loop-n.invariant (omega arith)

pub write_entry-at-requires : goal.write_entry-at-requires
write_entry-at-requires c = (omega arith, c.requires.0 c.loop-n.k (omega arith) (omega arith), entry_room _ _ _ _ _ _ _ _ _ c.loop-n.invariant (omega arith))

pub overflow_add-at : goal.overflow_add-at
overflow_add-at c = omega (arith, room_left (values_step _ _ _ _ _ _ _ _ _ c.loop-n.invariant (omega arith) c.write_entry-at.new.out c.write_entry-at.result c.write_entry-at.ensures).2, c.well_formed)

pub loop-n-preserved : goal.loop-n-preserved
loop-n-preserved c =
    let one_less : c.args.count - c.loop-n._n - 1 ≡ c.args.count - (c.loop-n._n + 1) = omega arith in
    subst (λ (left : ℕ). ValuesToGo c.args.area.now c.args.values.now c.args.start c.args.count c.args.out.now (put_mid c.loop-n.at (length c.loop-n.out - c.loop-n.at) c.loop-n.out c.write_entry-at.new.out) (c.loop-n.at + c.write_entry-at.result) (c.loop-n.k + entry_words) left) one_less
    (values_step _ _ _ _ _ _ _ _ _ c.loop-n.invariant (omega arith) c.write_entry-at.new.out c.write_entry-at.result c.write_entry-at.ensures)

pub shape_of-out : goal.shape_of-out
shape_of-out c = length_now c.loop-n.invariant.2

pub returns : goal.returns
returns c = values_done _ _ _ _ _ _ _ _ _ c.loop-n.invariant (omega arith)
