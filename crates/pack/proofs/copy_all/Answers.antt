-- `copy_all` meets its contract. The invariant: the bytes of the entries before i are copied. Assumes nothing.
use mathlib.Core.Path.{sym, ap}
use Prim.Native.Nat.{ℕ, ◌/◌}
use native.Mathlib.Omega.{arith}
use Rattle.pack_links.proofs.MoveLaws.{plain_long}
use Rattle.pack_links.proofs.CopyLaws.{copy_begin, copy_end, copy_long, copy_place, copy_inside, copy_asks, next_above, copy_go}
use Rattle.wire.specs.Layout.{entry_words}
use Rattle.pack.proofs.copy_all.Goals as goal

pub loop-i-init : goal.loop-i-init
loop-i-init c = (ap (λ (n : ℕ). n / entry_words) (sym (plain_long _)), copy_begin _ _ _)

pub next_at-next-requires : goal.next_at-next-requires
next_at-next-requires c =
    copy_asks _ _ c.requires.inside _ c.requires.movable _ c.requires.values_in_bounds _ _ _ c.loop-i.invariant.1 (rw c.loop-i.invariant.0 at c.loop-i-test.true)

pub overflow_mul-i : goal.overflow_mul-i
overflow_mul-i c =
    omega (arith, copy_inside _ _ c.requires.inside _ c.requires.movable _ c.requires.values_in_bounds _ _ _ c.loop-i.invariant.1 (rw c.loop-i.invariant.0 at c.loop-i-test.true))

pub overflow_add-i : goal.overflow_add-i
overflow_add-i c =
    omega (arith, copy_inside _ _ c.requires.inside _ c.requires.movable _ c.requires.values_in_bounds _ _ _ c.loop-i.invariant.1 (rw c.loop-i.invariant.0 at c.loop-i-test.true))

pub offset_bounds-values-i : goal.offset_bounds-values-i
offset_bounds-values-i c =
    omega (arith, copy_inside _ _ c.requires.inside _ c.requires.movable _ c.requires.values_in_bounds _ _ _ c.loop-i.invariant.1 (rw c.loop-i.invariant.0 at c.loop-i-test.true))

pub bounds-values-i : goal.bounds-values-i
bounds-values-i c =
    omega (arith, copy_inside _ _ c.requires.inside _ c.requires.movable _ c.requires.values_in_bounds _ _ _ c.loop-i.invariant.1 (rw c.loop-i.invariant.0 at c.loop-i-test.true))

pub overflow_sub-next : goal.overflow_sub-next
overflow_sub-next c =
    next_above _ _ c.requires.inside _ c.requires.movable _ c.requires.values_in_bounds _ _ _ c.loop-i.invariant.1 (rw c.loop-i.invariant.0 at c.loop-i-test.true) _ c.next_at-next.ensures

pub slice_bounds-write_bytes-count : goal.slice_bounds-write_bytes-count
slice_bounds-write_bytes-count c =
    copy_place _ _ c.requires.inside _ c.requires.movable _ c.requires.values_in_bounds _ _ _ c.loop-i.invariant.1

pub slice_bounds-write_bytes-start : goal.slice_bounds-write_bytes-start
slice_bounds-write_bytes-start c =
    copy_place _ _ c.requires.inside _ c.requires.movable _ c.requires.values_in_bounds _ _ _ c.loop-i.invariant.1

pub loop-i-preserved : goal.loop-i-preserved
loop-i-preserved c =
    (c.loop-i.invariant.0, copy_go _ _ c.requires.inside _ c.requires.movable _ c.requires.values_in_bounds _ _ _ c.loop-i.invariant.1 (rw c.loop-i.invariant.0 at c.loop-i-test.true) _ c.next_at-next.ensures _ _ c.cut-bytes.ensures c.write_bytes.ensures)

pub shape_of-out : goal.shape_of-out
shape_of-out c =
    copy_long _ _ c.requires.inside _ c.requires.movable _ c.requires.values_in_bounds _ _ _ c.loop-i.invariant.1

pub returns : goal.returns
returns c =
    copy_end _ _ c.requires.inside _ c.requires.movable _ c.requires.values_in_bounds _ _ _ c.loop-i.invariant.1 (rw c.loop-i.invariant.0 at c.loop-i-test.false)
