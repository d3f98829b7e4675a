-- `crc64_long::leave_all` meets its contract. The invariant: what is owed by the i bytes that left comes to what was owed. Assumes nothing.
use mathlib.Core.Path.{◌≡◌, refl, sym, ap, ◌∙◌}
use Prim.Native.Nat.{ℕ, ◌-◌}
use native.Mathlib.Omega.{arith}
use lib.ListN.{take, drop}
use borrow.Author.Rules.{rules}
use Rattle.crc64.specs.Polynomial.{fold}
use Rattle.crc64_sparse.specs.Stages.{places, owed}
use Rattle.crc64_long.proofs.Kept.{block_left}
use Rattle.crc64_long.proofs.leave_all.Goals as goal

pub loop-i-init : goal.loop-i-init
loop-i-init c = (search rules, c.requires.0, refl)

pub leave-requires : goal.leave-requires
leave-requires c =
    let start = c in
    let at = c.loop-i in
    let next = c.block-next.ensures in
    (at.invariant.1, next.0, omega (arith, start.requires.1, next.1))

pub shift-requires : goal.shift-requires
shift-requires c = (c.leave.ensures.0, c.block-next.ensures.0)

pub overflow_add-i : goal.overflow_add-i
overflow_add-i c = omega (arith, c.block-next.ensures.1)

pub loop-i-smaller : goal.loop-i-smaller
loop-i-smaller c =
    let block = c.block-next in
    let at = c.loop-i in
    omega (arith, block.ensures.1, block.ensures.2 (omega arith))

pub loop-i-preserved : goal.loop-i-preserved
loop-i-preserved c =
    let block = c.block-next in
    let start = c in
    let at = c.loop-i in
    let next = block.ensures in (
      omega (arith, next.1),
      c.shift.ensures.0,
      block_left block.result at.i start.args.bytes.now at.window _ at.invariant.1 (omega (arith, start.requires.1, next.1)) c.leave.ensures.1 c.shift.ensures.1
          ∙ at.invariant.2,
    )

pub returns : goal.returns
returns c =
    let start = c in
    let at = c.loop-i in
    let all : at.i ≡ start.args.count = omega arith in
    (at.invariant.1, ap (λ (n : ℕ). fold 0 (owed places (take 1856 at.window) (drop n start.args.bytes.now))) (sym all) ∙ at.invariant.2)
