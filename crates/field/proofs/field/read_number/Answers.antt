-- A varint is all of a payload of wire type 0. Assumes nothing.
use Rattle.field.proofs.FieldLaws.{number_cut, number_held}
use Rattle.field.proofs.field.read_number.Goals as goal

pub returns-in_err-value : goal.returns-in_err-value
returns-in_err-value c = rw c.from_residual.ensures (number_cut _ _ _ (c.in_err-value.ensures))

pub returns : goal.returns
returns c = number_held _ _ _ _ (c.in_ok-value.ensures)
