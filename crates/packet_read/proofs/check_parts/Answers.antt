-- `check_parts` meets its contract. The invariant: the next part begins at `at`, and no part before it fails.
-- Assumes nothing.
use native.Mathlib.Omega.{arith}
use Rattle.packet_read.proofs.OrderLaws.{parts_fail, parts_pass}
use Rattle.packet_read.proofs.PartLaws.{start_first, start_next, part_inside, parts_begin, parts_end, parts_miss, parts_hit, parts_actual}
use Rattle.packet_read.proofs.check_parts.Goals as goal

pub loop-index-init : goal.loop-index-init
loop-index-init c = (start_first _ _, parts_begin _ _)

pub overflow_add-end : goal.overflow_add-end
overflow_add-end c = let l = c.loop-index in
    omega (arith, part_inside _ _ l.index _ _ _ l.invariant.0 c.size_word-size.ensures c.taken.ensures c.loop-index-test.true)

pub slice_bounds-check_part-end : goal.slice_bounds-check_part-end
slice_bounds-check_part-end c = let l = c.loop-index in
    omega (arith, part_inside _ _ l.index _ _ _ l.invariant.0 c.size_word-size.ensures c.taken.ensures c.loop-index-test.true)

pub returns-in-Err : goal.returns-in-Err
returns-in-Err c = let k = c in
    let l = k.loop-index in
    let read = k.size_word-size.ensures in
    let takes = k.taken.ensures in
    let sum = k.sum_word-expected.ensures in
    let below = k.loop-index-test.true in
    let told = c.in-Err.ensures in
    λ rest. parts_fail _ _ rest _ _ _ _ (parts_hit _ _ l.index _ _ _ l.invariant.0 read takes _ sum below l.invariant.1 _ told) below sum (parts_actual _ _ l.index _ _ _ l.invariant.0 read takes _ sum below l.invariant.1 _ told) (start_next _ _ l.index _ _ _ l.invariant.0 read takes)

pub loop-index-preserved : goal.loop-index-preserved
loop-index-preserved c = let k = c in
    let l = k.loop-index in
    let read = k.size_word-size.ensures in
    let takes = k.taken.ensures in
    let sum = k.sum_word-expected.ensures in
    let below = k.loop-index-test.true in
    (start_next _ _ l.index _ _ _ l.invariant.0 read takes, parts_miss _ _ l.index _ _ _ l.invariant.0 read takes _ sum below l.invariant.1 c.in_default.ensures)

pub returns : goal.returns
returns c rest = parts_pass _ _ rest (parts_end _ _ c.loop-index.index c.loop-index-test.false (omega arith) c.loop-index.invariant.1)
