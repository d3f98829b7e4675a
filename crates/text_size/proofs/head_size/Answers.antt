-- `head_size` meets its contract. Assumes nothing.
use native.Mathlib.Omega.{arith}
use Rattle.text_size.proofs.SizeLaws.{head_length, decimal_most, flag_most}
use Rattle.text_size.proofs.head_size.Goals as goal

pub overflow_add-result : goal.overflow_add-result
overflow_add-result c = omega (arith, c.decimal_size.ensures, decimal_most c.args.id)

pub overflow_add-result-2 : goal.overflow_add-result-2
overflow_add-result-2 c = omega (arith, c.decimal_size.ensures, decimal_most c.args.id, c.flag.ensures, flag_most c.args.aggregate)

pub returns : goal.returns
returns c = omega (arith, c.decimal_size.ensures, c.flag.ensures, head_length c.args.id c.args.aggregate)
