-- `copy_all` meets its contract. The invariant: the bytes of the entries before i are copied. Assumes nothing.
use mathlib.Core.Path.{refl}
use native.Mathlib.Omega.{arith}
use Rattle.pack_plain.proofs.PlainLaws.{copy_begin, copy_end, copy_long, copy_place, copy_next, copy_go}
use Rattle.pack_plain.proofs.copy_all.Goals as goal

pub loop-i-init : goal.loop-i-init
loop-i-init c = (refl, copy_begin _ _ _)

pub slice_bounds-write_bytes-count : goal.slice_bounds-write_bytes-count
slice_bounds-write_bytes-count c =
    copy_place _ _ c.requires.0 _ c.requires.1 _ _ _ c.loop-i.invariant.1

pub slice_bounds-write_bytes-start : goal.slice_bounds-write_bytes-start
slice_bounds-write_bytes-start c =
    copy_place _ _ c.requires.0 _ c.requires.1 _ _ _ c.loop-i.invariant.1

pub overflow_add-at : goal.overflow_add-at
overflow_add-at c =
    omega (arith, copy_next _ _ c.requires.0 _ c.requires.1 _ _ _ c.loop-i.invariant.1 (rw c.loop-i.invariant.0 at c.loop-i-test.true) _ c.room_of-n.ensures, copy_long _ _ c.requires.0 _ c.requires.1 _ _ _ c.loop-i.invariant.1, c.well_formed)

pub loop-i-preserved : goal.loop-i-preserved
loop-i-preserved c =
    (c.loop-i.invariant.0, copy_go _ _ c.requires.0 _ c.requires.1 _ _ _ c.loop-i.invariant.1 (rw c.loop-i.invariant.0 at c.loop-i-test.true) _ c.room_of-n.ensures _ _ c.cut-bytes.ensures c.write_bytes.ensures)

pub shape_of-out : goal.shape_of-out
shape_of-out c =
    copy_long _ _ c.requires.0 _ c.requires.1 _ _ _ c.loop-i.invariant.1

pub returns : goal.returns
returns c =
    copy_end _ _ c.requires.0 _ c.requires.1 _ _ _ c.loop-i.invariant.1 (rw c.loop-i.invariant.0 at c.loop-i-test.false)
