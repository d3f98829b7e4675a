-- The contract, part by part. Assumes nothing.
use Rattle.error_table.specs.Table.{code_in}
use Prim.Native.Nat.{ℕ, ◌+◌}
use mathlib.Core.Path.{ap}
use native.Mathlib.Omega.{arith}
use Rattle.error_write.proofs.SizeLaws.{varint_few, sum_of, sum_behind}
use Rattle.error_write.proofs.size.own_size.Goals as goal

pub overflow_add-code : goal.overflow_add-code
overflow_add-code c =
    omega (arith, c.varint_size.ensures, varint_few (code_in c.args.errors.now c.args.i))

pub returns : goal.returns
returns c = sum_of _ _ (sum_behind _ _ (ap (λ (n : ℕ). 1 + n) c.varint_size.ensures) c.delimited_size.ensures c.add_capped-head.ensures) c.dictionary_size.ensures c.add_capped.ensures
