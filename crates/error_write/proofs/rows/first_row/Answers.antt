-- The contract, case by case. Assumes nothing.
use Prim.Native.Nat.{◌+◌, ◌-◌}
use mathlib.Core.Path.{◌≡◌}
use Rattle.error_write.proofs.RowLaws.{least_begin, least_on, run_found, run_all, runs_unsorted, pending_within}
use native.Mathlib.Omega.{arith}
use Rattle.error_write.proofs.rows.first_row.Goals as goal

pub returns-then-not-sorted : goal.returns-then-not-sorted
returns-then-not-sorted c = runs_unsorted c.args.attributes.now c.args.sorted (c.if-not-sorted.true) _ _ c.requires

pub loop-k-init : goal.loop-k-init
loop-k-init c = least_begin c.args.attributes.now c.args.i c.args.till

pub overflow_mul-k : goal.overflow_mul-k
overflow_mul-k c =
    omega (arith, pending_within c.args.attributes.now c.args.sorted (c.args.i + 1) c.args.till c.requires, c.loop-k.invariant.0)

pub offset_bounds-attributes-k : goal.offset_bounds-attributes-k
offset_bounds-attributes-k c =
    omega (arith, pending_within c.args.attributes.now c.args.sorted (c.args.i + 1) c.args.till c.requires, c.loop-k.invariant.0)

pub bounds-attributes-k : goal.bounds-attributes-k
bounds-attributes-k c =
    omega (arith, pending_within c.args.attributes.now c.args.sorted (c.args.i + 1) c.args.till c.requires, c.loop-k.invariant.0)

pub returns-then-attributes-k : goal.returns-then-attributes-k
returns-then-attributes-k c =
    let back : c.loop-k.k - 1 + 1 ≡ c.loop-k.k = omega arith in
    rw back (run_found c.args.attributes.now c.args.sorted (c.if-not-sorted.false) _ _ _ c.requires c.loop-k.invariant (omega arith) c.if-attributes-k.true)

pub loop-k-preserved : goal.loop-k-preserved
loop-k-preserved c =
    least_on c.args.attributes.now c.args.i c.loop-k.k c.args.till (omega arith) c.loop-k.invariant c.if-attributes-k.false

pub returns : goal.returns
returns c =
    run_all c.args.attributes.now c.args.sorted (c.if-not-sorted.false) _ _ _ c.requires c.loop-k.invariant (omega arith)
