-- Case by case of the definition. Assumes nothing.
use Rattle.error_table.proofs.TableLaws.{index_high, key_outside, value_outside}
use Rattle.error_table.proofs.table.bad_attribute.Goals as goal

pub returns-then-errors-attributes : goal.returns-then-errors-attributes
returns-then-errors-attributes c =
    index_high c.args.size c.args.errors c.args.attributes.now c.args.k c.if-errors-attributes.true

pub returns-then-reaches_outside : goal.returns-then-reaches_outside
returns-then-reaches_outside c =
    key_outside c.args.size c.args.errors c.args.attributes.now c.args.k c.if-errors-attributes.false _ c.reaches_outside.ensures c.if-reaches_outside.true

pub returns : goal.returns
returns c =
    value_outside c.args.size c.args.errors c.args.attributes.now c.args.k c.if-errors-attributes.false _ c.reaches_outside.ensures c.if-reaches_outside.false _ c.reaches_outside-2.ensures
