-- `write::write_row` meets its contract: a null row, an empty one, or one with values. Assumes nothing.
use mathlib.Core.Path.{ap}
use native.Mathlib.Omega.{arith}
use lib.ListN.{length, length-set}
use Rattle.text_size.proofs.SizeLaws.{row_null, row_empty, row_values, row_count}
use Rattle.text_write.proofs.PutLaws.{line_within, null_line, empty_line, same_puts}
use Rattle.text_write.proofs.write.write_row.Goals as goal

pub bounds-out-0 : goal.bounds-out-0
bounds-out-0 c =
    let start' = c in
    omega (arith, line_within start'.args.out.now _ _ (row_null start'.args.area.now start'.args.values.now start'.args.count start'.args.k c.in-18446744073709551615.is) start'.requires.3)

pub bounds-out-1 : goal.bounds-out-1
bounds-out-1 c =
    let start' = c in
    simp length-set (omega (arith, line_within start'.args.out.now _ _ (row_null start'.args.area.now start'.args.values.now start'.args.count start'.args.k c.in-18446744073709551615.is) start'.requires.3))

pub returns-in-18446744073709551615 : goal.returns-in-18446744073709551615
returns-in-18446744073709551615 c =
    let start' = c in
    null_line start'.args.out.now _ (row_null start'.args.area.now start'.args.values.now start'.args.count start'.args.k c.in-18446744073709551615.is) start'.requires.3

pub bounds-out-0-in-0 : goal.bounds-out-0-in-0
bounds-out-0-in-0 c =
    let start' = c in
    omega (arith, line_within start'.args.out.now _ _ (row_empty start'.args.area.now start'.args.values.now start'.args.count start'.args.k c.in-0.is) start'.requires.3)

pub returns-in-0 : goal.returns-in-0
returns-in-0 c =
    let start' = c in
    empty_line start'.args.out.now _ (row_empty start'.args.area.now start'.args.values.now start'.args.count start'.args.k c.in-0.is) start'.requires.3

pub write_values-requires : goal.write_values-requires
write_values-requires c = let start = c in (start.requires.0, start.requires.1, omega (arith, start.requires.2, row_count start.args.count (λ e. omega arith)), omega (arith, ap length (row_values start.args.area.now start.args.values.now start.args.count start.args.k (λ e. omega arith) (λ e. omega arith)), start.requires.3))

pub returns-in_default : goal.returns-in_default
returns-in_default c =
    let start' = c in
    same_puts _ _ _ _ _ (row_values start'.args.area.now start'.args.values.now start'.args.count start'.args.k (λ e. omega arith) (λ e. omega arith)) c.write_values.ensures
