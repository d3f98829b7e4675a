-- A whole field, then its type, where the message knows one. Assumes nothing.
use Rattle.std.proofs.Common.{rules}
use Rattle.error_tree.proofs.MessageLaws.{known_cut, known_any, known_own, known_other}
use Rattle.error_tree.proofs.message.read_known.Goals as goal

pub returns-in_err-field : goal.returns-in_err-field
returns-in_err-field c = rw c.from_residual.ensures (known_cut _ _ _ _ (c.in_err-field.ensures))

pub returns-in_default : goal.returns-in_default
returns-in_default c = known_any _ _ _ _ _ (c.in_ok-field.ensures) (c.in_default.ensures)

pub returns-then-ne : goal.returns-then-ne
returns-then-ne c = known_other _ _ _ _ _ (c.in_ok-field.ensures) _ (c.in-Some.ensures) (search rules)

pub returns : goal.returns
returns c = known_own _ _ _ _ _ (c.in_ok-field.ensures) _ (c.in-Some.ensures) (search rules)
