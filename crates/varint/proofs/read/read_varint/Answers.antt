-- The contract, part by part. Assumes nothing.
use Rattle.varint.proofs.VarintLaws.{past_input}
use Rattle.varint.proofs.read.read_varint.Goals as goal

pub returns-then-input-end : goal.returns-then-input-end
returns-then-input-end c = past_input c.args.input.now c.args.start c.args.end c.if-input-end.true
