-- The varint says how many bytes come behind it. Assumes nothing.
use Rattle.std.proofs.Common.{arith}
use Rattle.field.proofs.FieldLaws.{bytes_cut, bytes_long, bytes_held, next_within}
use Rattle.field.proofs.field.read_bytes.Goals as goal

pub returns-in_err-value : goal.returns-in_err-value
returns-in_err-value c = rw c.from_residual.ensures (bytes_cut _ _ _ (c.in_err-value.ensures))

pub returns-then-left-value : goal.returns-then-left-value
returns-then-left-value c = bytes_long _ _ _ _ (c.in_ok-value.ensures) (omega (arith, next_within _ _ _ _ (c.in_ok-value.ensures)))

pub returns : goal.returns
returns c = bytes_held _ _ _ _ (c.in_ok-value.ensures) (omega (arith, next_within _ _ _ _ (c.in_ok-value.ensures)))
