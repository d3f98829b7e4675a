-- The contract, part by part. Assumes nothing.
use Rattle.error_write.proofs.SizeLaws.{sum_of}
use Rattle.error_write.proofs.size.attribute_size.Goals as goal

pub returns : goal.returns
returns c = sum_of _ _ c.delimited_size-key.ensures c.delimited_size.ensures c.add_capped.ensures
