-- Nine bytes at most that say that more come, and a last one. Assumes nothing.
use Rattle.std.proofs.Common.{◌≡◌, ◌+◌, ◌-◌, ◌<◌, arith}
use Rattle.varint.proofs.ReadLaws.{running, light, room, scaled, stops, last_whole, runs, last_broken}
use Rattle.varint.proofs.read.read_within.Goals as goal

pub loop-init : goal.loop-init
loop-init c = running _ _

pub returns-then-end-at : goal.returns-then-end-at
returns-then-end-at c = stops c.loop.invariant _ c.requires c.if-end-at.true

pub overflow_mul-result : goal.overflow_mul-result
overflow_mul-result c =
    omega (arith, room c.loop.invariant (omega arith), scaled c.loop.invariant c.wide-byte.result 127 (omega arith))

pub overflow_add-result : goal.overflow_add-result
overflow_add-result c =
    omega (arith, room c.loop.invariant (omega arith), scaled c.loop.invariant c.wide-byte.result 127 (omega arith))

pub returns-then-byte-lt128 : goal.returns-then-byte-lt128
returns-then-byte-lt128 c =
    last_whole c.loop.invariant _ _ c.requires c.if-end-at.false c.wide-byte.ensures.0 c.if-byte-lt128.true
    (omega (arith, room c.loop.invariant (omega arith), scaled c.loop.invariant c.wide-byte.result 127 (omega arith)))

pub overflow_mul-value : goal.overflow_mul-value
overflow_mul-value c =
    omega (arith, room c.loop.invariant (omega arith), scaled c.loop.invariant (c.wide-byte.result - 128) 127 (omega arith))

pub overflow_add-value : goal.overflow_add-value
overflow_add-value c =
    omega (arith, room c.loop.invariant (omega arith), scaled c.loop.invariant (c.wide-byte.result - 128) 127 (omega arith))

pub overflow_mul-weight : goal.overflow_mul-weight
overflow_mul-weight c = omega (arith, room c.loop.invariant (omega arith))

pub loop-preserved : goal.loop-preserved
loop-preserved c =
    let some : 0 < 9 - c.loop.counter = omega arith in
    let fewer : 9 - c.loop.counter - 1 ≡ 9 - (c.loop.counter + 1) = omega arith in
    rw fewer at (runs c.loop.invariant _ _ c.requires c.if-end-at.false c.wide-byte.ensures.0 some c.if-byte-lt128.false c.wide-byte.ensures.1)

pub returns-then-end-at-2 : goal.returns-then-end-at-2
returns-then-end-at-2 c = stops c.loop.invariant _ c.requires c.if-end-at-2.true

pub returns-then-last-gt1 : goal.returns-then-last-gt1
returns-then-last-gt1 c =
    last_broken c.loop.invariant (omega arith) _ _ c.requires c.if-end-at-2.false c.wide-last.ensures.0 c.if-last-gt1.true

pub overflow_mul-result-2 : goal.overflow_mul-result-2
overflow_mul-result-2 c =
    omega (arith, light c.loop.invariant, scaled c.loop.invariant c.wide-last.result 1 (omega arith))

pub overflow_add-result-2 : goal.overflow_add-result-2
overflow_add-result-2 c =
    omega (arith, light c.loop.invariant, scaled c.loop.invariant c.wide-last.result 1 (omega arith))

pub returns : goal.returns
returns c =
    last_whole c.loop.invariant _ _ c.requires c.if-end-at-2.false c.wide-last.ensures.0 (omega arith)
    (omega (arith, light c.loop.invariant, scaled c.loop.invariant c.wide-last.result 1 (omega arith)))
