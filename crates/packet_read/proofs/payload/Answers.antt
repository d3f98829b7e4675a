-- `payload` meets its contract. The invariant: so far no size is too large, and the payload is what those parts take.
-- Assumes nothing.
use mathlib.Core.Path.{◌≡◌, refl}
use native.Mathlib.Omega.{arith}
use Rattle.packet.specs.Layout.{taken_before}
use Rattle.packet_read.proofs.SizeLaws.{taken_next, taken_small, sizes_begin, sizes_hit, sizes_miss, sizes_end}
use Rattle.packet_read.proofs.OrderLaws.{sized_large}
use Rattle.packet_read.proofs.payload.Goals as goal

pub loop-index-init : goal.loop-index-init
unfolding taken_before
loop-index-init c = (refl, omega arith, sizes_begin _ _)

pub returns-then-too_large : goal.returns-then-too_large
returns-then-too_large c =
    let loop-test = c.loop-index-test in
    let l = c.loop-index in
    λ limit rest. sized_large _ _ limit rest _ _ (sizes_hit _ l.index _ c.size_word-size.ensures _ c.too_large.ensures _ loop-test.true c.if-too_large.true l.invariant.2) loop-test.true c.size_word-size.ensures

pub overflow_add-payload : goal.overflow_add-payload
overflow_add-payload c = let l = c.loop-index in
    omega (arith, taken_small _ l.index _ c.size_word-size.ensures _ c.too_large.ensures _ c.taken-payload.ensures c.if-too_large.false)

pub loop-index-preserved : goal.loop-index-preserved
loop-index-preserved c = let l = c.loop-index in
    let read = c.size_word-size.ensures in
    let small = taken_small _ l.index _ read _ c.too_large.ensures _ c.taken-payload.ensures c.if-too_large.false in
    (taken_next _ l.index _ read _ _ l.invariant.0 c.taken-payload.ensures, omega arith, sizes_miss _ l.index _ read _ c.too_large.ensures _ c.loop-index-test.true c.if-too_large.false l.invariant.2)

pub returns : goal.returns
returns c = let l = c.loop-index in
    let same : l.index ≡ c.args.count = omega arith in
    (sizes_end _ l.index _ c.loop-index-test.false (omega arith) l.invariant.2, rw (← same) l.invariant.0, omega arith)
