-- `crc64_combine::stepped` meets its contract. Assumes nothing.
use native.Mathlib.Omega.{arith}
use borrow.Author.Rules.{rules}
use Rattle.crc64_combine.proofs.Loops.{top_lt, step_is}
use Rattle.crc64_combine.proofs.stepped.Goals as goal

pub overflow_mul-result : goal.overflow_mul-result
overflow_mul-result c = omega (arith, top_lt c.args.r (search rules))

pub returns : goal.returns
returns c = step_is _ (search rules)
