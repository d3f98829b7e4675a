-- The size says how many groups there are; all but the last say that more come. Assumes nothing.
use Rattle.std.proofs.Common.{◌≡◌, ◌-◌, ◌<◌, ◌≤◌, length, sym, arith}
use Rattle.words.proofs.BufferLaws.{fitted_short}
use Rattle.words.proofs.FillingLaws.{begins}
use Rattle.varint.specs.Varint.{varint}
use Rattle.varint.proofs.WriteLaws.{varint_some, shrinking, shrinks_on, more_left, last_left, store_room, stores, stores_last, written}
use Rattle.varint.proofs.write.write_varint.Goals as goal

pub returns-then-out-size : goal.returns-then-out-size
returns-then-out-size c =
    let size : c.varint_size-size.result ≡ length (varint c.args.n) = c.varint_size-size.ensures in
    (size, sym (fitted_short _ _ (omega arith)))

pub overflow_sub-i-end : goal.overflow_sub-i-end
overflow_sub-i-end c =
    let size : c.varint_size-size.result ≡ length (varint c.args.n) = c.varint_size-size.ensures in
    omega (arith, varint_some c.args.n)

pub loop-i-init : goal.loop-i-init
loop-i-init c =
    let size : c.varint_size-size.result ≡ length (varint c.args.n) = c.varint_size-size.ensures in
    (shrinking _ (omega arith), begins _ _ (omega arith))

pub bounds-out-i : goal.bounds-out-i
bounds-out-i c = store_room c.loop-i.invariant.0 c.loop-i.invariant.1

pub loop-i-preserved : goal.loop-i-preserved
loop-i-preserved c =
    let size : c.varint_size-size.result ≡ length (varint c.args.n) = c.varint_size-size.ensures in
    let more : 128 ≤ c.loop-i.rest = more_left c.loop-i.invariant.0 (omega arith) in
    (shrinks_on c.loop-i.invariant.0 more, stores c.loop-i.invariant.0 c.loop-i.invariant.1 more)

pub overflow_cast-out-2 : goal.overflow_cast-out-2
overflow_cast-out-2 c =
    let size : c.varint_size-size.result ≡ length (varint c.args.n) = c.varint_size-size.ensures in
    omega (arith, varint_some c.args.n, last_left c.loop-i.invariant.0 (omega (arith, varint_some c.args.n)))

pub overflow_sub-out : goal.overflow_sub-out
overflow_sub-out c =
    let size : c.varint_size-size.result ≡ length (varint c.args.n) = c.varint_size-size.ensures in
    omega (arith, varint_some c.args.n)

pub bounds-out-size : goal.bounds-out-size
bounds-out-size c = omega (arith, store_room c.loop-i.invariant.0 c.loop-i.invariant.1)

pub returns : goal.returns
returns c =
    let size : c.varint_size-size.result ≡ length (varint c.args.n) = c.varint_size-size.ensures in
    let same : c.loop-i.i ≡ c.varint_size-size.result - 1 = omega arith in
    let last : c.loop-i.rest < 128 = last_left c.loop-i.invariant.0 (omega (arith, varint_some c.args.n)) in
    (size, rw (← same) (written (stores_last c.loop-i.invariant.0 c.loop-i.invariant.1 last)))
