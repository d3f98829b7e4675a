-- The contract, part by part. Assumes nothing.
use Rattle.error_write.proofs.AnswerLaws.{sizes_measure}
use Rattle.error_write.proofs.size.error_size.Goals as goal

pub returns : goal.returns
returns c =
    sizes_measure c.args.area.now c.args.errors.now c.args.attributes.now c.size_checked.result c.size_checked.ensures
