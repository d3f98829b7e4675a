-- `fill::fill_line` meets its contract: an empty row, a null row, or the values of a row. Assumes nothing.
use native.Mathlib.Omega.{arith}
use Rattle.text_read.proofs.LineLaws.{line_empty, null_within, line_null, line_values}
use Rattle.text_read.proofs.fill.fill_line.Goals as goal

pub returns-in-10 : goal.returns-in-10
returns-in-10 c = let start = c in line_empty start.args.text.now start.args.at start.args.values.now start.args.k start.args.area.now start.args.used start.requires c.in-10.is

pub overflow_add-result-in-35 : goal.overflow_add-result-in-35
overflow_add-result-in-35 c = let start = c in omega (arith, null_within start.args.text.now start.args.at start.args.values.now start.args.k start.args.area.now start.args.used start.requires c.in-35.is, start.well_formed)

pub returns-in-35 : goal.returns-in-35
returns-in-35 c = let start = c in line_null start.args.text.now start.args.at start.args.values.now start.args.k start.args.area.now start.args.used start.requires c.in-35.is

pub fill_values-requires : goal.fill_values-requires
fill_values-requires c = let start = c in line_values start.args.text.now start.args.at start.args.values.now start.args.k start.args.area.now start.args.used start.requires (λ e. omega arith) (λ e. omega arith)
