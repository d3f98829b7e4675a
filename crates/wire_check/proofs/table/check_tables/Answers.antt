-- `table::check_tables` meets its contract: each way out is one of the rules.
-- Assumes nothing.
use mathlib.Core.Path.{sym, ◌∙◌}
use Rattle.wire_check.proofs.TableLaws.{rule_1, rule_2, rule_3, many_rows, tables_pass}
use Rattle.wire_check.proofs.table.check_tables.Goals as goal

pub returns-then-values-ne0 : goal.returns-then-values-ne0
returns-then-values-ne0 c =
    rule_1 c.args.area.now c.args.rows.now c.args.values.now c.if-values-ne0.true

pub returns-then-not-sums_to : goal.returns-then-not-sums_to
returns-then-not-sums_to c =
    rule_2 c.args.area.now c.args.rows.now c.args.values.now c.if-values-ne0.false (sym c.sums_to.ensures ∙ c.if-not-sums_to.true)

pub returns-then-bad-entries : goal.returns-then-bad-entries
returns-then-bad-entries c =
    rule_3 c.args.area.now c.args.rows.now c.args.values.now c.if-values-ne0.false (sym c.sums_to.ensures ∙ c.if-not-sums_to.false) _ c.first_bad-bad.ensures c.if-bad-entries.true

pub returns-then-rows-gt-MAX_ROWS_PER_ROWSET : goal.returns-then-rows-gt-MAX_ROWS_PER_ROWSET
returns-then-rows-gt-MAX_ROWS_PER_ROWSET c =
    many_rows c.args.area.now c.args.rows.now c.args.values.now c.if-values-ne0.false (sym c.sums_to.ensures ∙ c.if-not-sums_to.false) _ c.first_bad-bad.ensures c.if-bad-entries.false c.if-rows-gt-MAX_ROWS_PER_ROWSET.true

pub returns : goal.returns
returns c =
    tables_pass c.args.area.now c.args.rows.now c.args.values.now c.if-values-ne0.false (sym c.sums_to.ensures ∙ c.if-not-sums_to.false) _ c.first_bad-bad.ensures c.if-bad-entries.false c.if-rows-gt-MAX_ROWS_PER_ROWSET.false
