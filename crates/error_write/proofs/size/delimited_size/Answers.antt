-- The contract, part by part. Assumes nothing.
use native.Mathlib.Omega.{arith}
use Rattle.error_write.proofs.SizeLaws.{varint_few, lead_of}
use Rattle.error_write.proofs.size.delimited_size.Goals as goal

pub overflow_add-varint_size : goal.overflow_add-varint_size
overflow_add-varint_size c = omega (arith, c.varint_size.ensures, varint_few c.args.n)

pub returns : goal.returns
returns c = lead_of c.args.n c.varint_size.ensures c.add_capped.ensures
