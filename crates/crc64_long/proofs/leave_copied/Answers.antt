-- `crc64_long::leave_copied` meets its contract. The invariant: what is owed by the i bytes that left comes to what was owed, and
-- they are copied. Assumes nothing.
use mathlib.Core.Path.{◌≡◌, refl, sym, ap, ◌∙◌}
use mathlib.Core.List.{List}
use Prim.Native.Nat.{ℕ, ◌+◌, ◌-◌}
use native.Mathlib.Omega.{arith}
use lib.ListN.{take, drop}
use borrow.Author.Rules.{rules}
use Rattle.words.specs.Buffer.{over}
use Rattle.words.proofs.FillingLaws.{begins, place, length_now}
use Rattle.crc64.specs.Polynomial.{fold}
use Rattle.crc64_sparse.specs.Stages.{span, places, owed}
use Rattle.crc64_long.proofs.Kept.{block_left}
use Rattle.crc64_long.proofs.Copied.{filled_same, bytes_copied, copy_same, all_copied}
use Rattle.crc64_long.proofs.leave_copied.Goals as goal

same : (i n : ℕ) → i + n - i ≡ n
same i n = omega arith

pub loop-i-init : goal.loop-i-init
loop-i-init c = (search rules, c.requires.0, refl, begins _ _ c.requires.2)

pub slice_bounds-write_bytes-count : goal.slice_bounds-write_bytes-count
slice_bounds-write_bytes-count c = place c.loop-i.invariant.3

pub slice_bounds-write_bytes-start : goal.slice_bounds-write_bytes-start
slice_bounds-write_bytes-start c = place c.loop-i.invariant.3

pub overflow_add-i : goal.overflow_add-i
overflow_add-i c = omega (arith, c.block-next.ensures.1, c.requires.1)

pub slice_bounds-write_bytes-end-in-loop-i : goal.slice_bounds-write_bytes-end-in-loop-i
slice_bounds-write_bytes-end-in-loop-i c = omega (arith, c.block-next.ensures.1, c.requires.1)

pub leave-requires : goal.leave-requires
leave-requires c =
    let block = c.block-next in
    let start = c in
    let at = c.loop-i in
    let next = block.ensures in
    let n : ℕ = block.result in
    (at.invariant.1, next.0, place (bytes_copied start.args.bytes.now at.i n (omega (arith, start.requires.1, next.1)) at.invariant.3 (at.i + n - at.i) (same at.i n) c.write_bytes.ensures))

pub shift-requires : goal.shift-requires
shift-requires c = (c.leave.ensures.0, c.block-next.ensures.0)

pub overflow_add-i-in-loop-i : goal.overflow_add-i-in-loop-i
overflow_add-i-in-loop-i c = omega (arith, c.block-next.ensures.1)

pub loop-i-smaller : goal.loop-i-smaller
loop-i-smaller c =
    let block = c.block-next in
    let at = c.loop-i in
    omega (arith, block.ensures.1, block.ensures.2 (omega arith))

pub loop-i-preserved : goal.loop-i-preserved
loop-i-preserved c =
    let block = c.block-next in
    let start = c in
    let at = c.loop-i in
    let next = block.ensures in
    let n : ℕ = block.result in
    let s : List ℕ = start.args.bytes.now in
    let copied = bytes_copied s at.i n (omega (arith, start.requires.1, next.1)) at.invariant.3 (at.i + n - at.i) (same at.i n) c.write_bytes.ensures in (
      omega (arith, next.1),
      c.shift.ensures.0,
      block_left n at.i s at.window _ at.invariant.1 (omega (arith, start.requires.1, next.1))
          (c.leave.ensures.1 ∙ filled_same n n _ _ (drop at.i s) (omega arith) (copy_same s at.i n copied)) c.shift.ensures.1
          ∙ at.invariant.2,
      copied,
    )

pub shape_of-out : goal.shape_of-out
shape_of-out c = length_now c.loop-i.invariant.3

pub returns : goal.returns
returns c =
    let start = c in
    let at = c.loop-i in
    let all : at.i ≡ start.args.count = omega arith in (
      at.invariant.1,
      ap (λ (n : ℕ). fold 0 (owed places (take span at.window) (drop n start.args.bytes.now))) (sym all) ∙ at.invariant.2,
      all_copied start.args.bytes.now at.i at.invariant.3 ∙ ap (λ (n : ℕ). over (take n start.args.bytes.now) start.args.out.now) all,
    )
