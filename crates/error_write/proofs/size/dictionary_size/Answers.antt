-- The contract, part by part. Assumes nothing.
use Rattle.error_write.proofs.SizeLaws.{dictionary_none, dictionary_some}
use Rattle.error_write.proofs.size.dictionary_size.Goals as goal

pub returns-then-entries-eq0 : goal.returns-then-entries-eq0
returns-then-entries-eq0 c = dictionary_none _ c.if-entries-eq0.true

pub returns : goal.returns
returns c = dictionary_some _ c.if-entries-eq0.false c.delimited_size.ensures
