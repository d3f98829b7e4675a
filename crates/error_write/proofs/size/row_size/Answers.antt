-- The contract, part by part. Assumes nothing.
use Rattle.error_write.proofs.SizeLaws.{row_other, row_own}
use Rattle.error_write.proofs.size.row_size.Goals as goal

pub returns-then-attributes-k : goal.returns-then-attributes-k
returns-then-attributes-k c =
    row_other c.args.attributes.now c.args.i c.args.k c.if-attributes-k.true

pub returns : goal.returns
returns c =
    row_own c.args.attributes.now c.args.i c.args.k c.if-attributes-k.false c.attribute_size.ensures c.delimited_size.ensures
