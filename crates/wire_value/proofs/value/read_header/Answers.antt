-- `value::read_header` meets its contract: the four fields are the digits of the word. Assumes nothing.
use Rattle.wire_value.proofs.HeaderLaws.{header_read}
use Rattle.wire_value.proofs.value.read_header.Goals as goal

pub returns : goal.returns
returns c = header_read c.args.input.now c.args.at c.read_u64-word.result (λ n. (c.type_inv.input n).fits) c.read_u64-word.ensures
