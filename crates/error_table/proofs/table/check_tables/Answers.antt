-- The rules in their order. Assumes nothing.
use Rattle.error_table.proofs.TableLaws.{errors_cut, attributes_cut, no_error, error_bad, found_none, attribute_bad, tables_pass}
use Rattle.error_table.proofs.table.check_tables.Goals as goal

pub returns-then-errors-ne0 : goal.returns-then-errors-ne0
returns-then-errors-ne0 c = errors_cut c.args.area.now c.args.errors.now c.args.attributes.now c.if-errors-ne0.true

pub returns-then-attributes-ne0 : goal.returns-then-attributes-ne0
returns-then-attributes-ne0 c =
    attributes_cut c.args.area.now c.args.errors.now c.args.attributes.now c.if-errors-ne0.false c.if-attributes-ne0.true

pub returns-then-count-eq0 : goal.returns-then-count-eq0
returns-then-count-eq0 c =
    no_error c.args.area.now c.args.errors.now c.args.attributes.now c.if-errors-ne0.false c.if-attributes-ne0.false
    c.if-count-eq0.true

pub returns-in-Some : goal.returns-in-Some
returns-in-Some c =
    error_bad c.args.area.now c.args.errors.now c.args.attributes.now c.if-errors-ne0.false c.if-attributes-ne0.false
    c.if-count-eq0.false _ (c.in-Some.ensures)

pub returns-in-Some-first_bad_attribute : goal.returns-in-Some-first_bad_attribute
returns-in-Some-first_bad_attribute c =
    attribute_bad c.args.area.now c.args.errors.now c.args.attributes.now c.if-errors-ne0.false c.if-attributes-ne0.false
    c.if-count-eq0.false (found_none _ _ (c.in_default.ensures)) _ (c.in-Some-first_bad_attribute.ensures)

pub returns : goal.returns
returns c =
    tables_pass c.args.area.now c.args.errors.now c.args.attributes.now c.if-errors-ne0.false c.if-attributes-ne0.false
    c.if-count-eq0.false (found_none _ _ (c.in_default.ensures)) (found_none _ _ (c.in_default-first_bad_attribute.ensures))
