-- `row_size` meets its contract: a null row, an empty one, or one with values. Assumes nothing.
use mathlib.Core.Path.{sym, ◌∙◌, ap}
use native.Mathlib.Omega.{arith}
use lib.ListN.{length}
use Rattle.text_size.proofs.SizeLaws.{row_null, row_empty, row_values, row_count}
use Rattle.text_size.proofs.row_size.Goals as goal

pub returns-in-18446744073709551615 : goal.returns-in-18446744073709551615
returns-in-18446744073709551615 c = let a = c.args in sym (ap length (row_null a.area.now a.values.now a.count a.k c.in-18446744073709551615.is))

pub returns-in-0 : goal.returns-in-0
returns-in-0 c = let a = c.args in sym (ap length (row_empty a.area.now a.values.now a.count a.k c.in-0.is))

pub values_size-requires : goal.values_size-requires
values_size-requires c =
    let start = c in
    let same = ap length (row_values start.args.area.now start.args.values.now start.args.count start.args.k (λ e. omega arith) (λ e. omega arith)) in
    (start.requires.0, start.requires.1, omega (arith, start.requires.2, row_count start.args.count (λ e. omega arith)), omega (arith, same, start.requires.3))

pub returns-in_default : goal.returns-in_default
returns-in_default c =
    let a = c.args in
    c.values_size.ensures ∙ sym (ap length (row_values a.area.now a.values.now a.count a.k (λ e. omega arith) (λ e. omega arith)))
