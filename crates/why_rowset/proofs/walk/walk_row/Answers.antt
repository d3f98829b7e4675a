-- `walk::walk_row` meets its contract: the count is not there, is the null mark, is too large, or its values are
-- walked. Assumes nothing.
use Rattle.why_rowset.proofs.WalkLaws.{row_short, row_null, row_many, row_values}
use Rattle.why_rowset.proofs.walk.walk_row.Goals as goal

pub returns-then-there-lt-WORD_SIZE : goal.returns-then-there-lt-WORD_SIZE
returns-then-there-lt-WORD_SIZE c =
    row_short c.args.input.now c.args.row c.args.at c.args.plain c.short.result c.if-there-lt-WORD_SIZE.true c.short.ensures

pub returns-then-count : goal.returns-then-count
returns-then-count c =
    row_null c.args.input.now c.args.row c.args.at c.args.plain c.if-there-lt-WORD_SIZE.false _ c.read_u64-count.ensures c.if-count.true

pub returns-then-count-gt-MAX_VALUES_PER_ROW : goal.returns-then-count-gt-MAX_VALUES_PER_ROW
returns-then-count-gt-MAX_VALUES_PER_ROW c =
    row_many c.args.input.now c.args.row c.args.at c.args.plain c.if-there-lt-WORD_SIZE.false _ c.read_u64-count.ensures c.if-count.false c.refused.result c.if-count-gt-MAX_VALUES_PER_ROW.true c.refused.ensures

pub returns : goal.returns
returns c =
    row_values c.args.input.now c.args.row c.args.at c.args.plain c.if-there-lt-WORD_SIZE.false _ c.read_u64-count.ensures c.if-count.false c.if-count-gt-MAX_VALUES_PER_ROW.false c.walk_values.result c.walk_values.ensures
