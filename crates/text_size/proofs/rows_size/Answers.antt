-- `rows_size` meets its contract. The invariant: what is still to come makes up the whole. Assumes nothing.
use mathlib.Core.Path.{ap}
use native.Mathlib.Omega.{arith}
use lib.ListN.{length}
use Rattle.text_size.proofs.SizeLaws.{rows_go, row_fits, row_short, rows_none}
use Rattle.text_size.proofs.rows_size.Goals as goal

pub row_size-size-requires : goal.row_size-size-requires
row_size-size-requires c =
    let start' = c in
    (start'.requires.0, c.loop-count.invariant.0, row_fits _ _ _ _ _ _ c.loop-count.invariant c.loop-count-test.true, omega (arith, row_short _ _ _ _ _ _ c.loop-count.invariant c.loop-count-test.true, start'.requires.2))

pub overflow_add-size : goal.overflow_add-size
overflow_add-size c = omega (arith, c.row_size-size.ensures, row_short _ _ _ _ _ _ c.loop-count.invariant c.loop-count-test.true, c.requires.2)

pub overflow_mul-k : goal.overflow_mul-k
overflow_mul-k c = omega (arith, row_fits _ _ _ _ _ _ c.loop-count.invariant c.loop-count-test.true, c.values_in.ensures)

pub overflow_add-k : goal.overflow_add-k
overflow_add-k c = omega (arith, row_fits _ _ _ _ _ _ c.loop-count.invariant c.loop-count-test.true, c.values_in.ensures)

pub loop-count-preserved : goal.loop-count-preserved
loop-count-preserved c = rows_go _ _ _ _ _ _ c.loop-count.invariant c.loop-count-test.true _ _ c.row_size-size.ensures c.values_in.ensures

pub returns : goal.returns
returns c =
    let start' = c in
    omega (arith, c.loop-count.invariant.2, ap length (rows_none start'.args.area.now start'.args.rows.now start'.args.values.now c.loop-count.count-index c.loop-count.k c.loop-count-test.false))
