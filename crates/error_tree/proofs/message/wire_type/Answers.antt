-- Case by case of the definition. Assumes nothing.
use Rattle.error_tree.proofs.MessageLaws.{type_any, type_number, type_other, type_bytes}
use Rattle.error_tree.proofs.message.wire_type.Goals as goal
use Rattle.error_tree.proofs.message.wire_type.Goals.{else-known-eq-ERROR_FIELDS-via-then-known-eq-ERROR_FIELDS+else-number-eq1, else-known-eq-ERROR_FIELDS-via-else-known-eq-ERROR_FIELDS}

pub returns-then-known-number : goal.returns-then-known-number
returns-then-known-number c = type_any _ _ c.if-known-number.true

pub returns-then-number-eq1 : goal.returns-then-number-eq1
returns-then-number-eq1 c = type_number _ _ c.if-known-number.false c.if-known-eq-ERROR_FIELDS.true c.if-number-eq1.true

pub returns : goal.returns
returns c =
    elim c.else-known-eq-ERROR_FIELDS.branch [
      | else-known-eq-ERROR_FIELDS-via-then-known-eq-ERROR_FIELDS+else-number-eq1 w ↦
          type_other _ _ c.if-known-number.false w.if-known-eq-ERROR_FIELDS.true w.if-number-eq1.false
      | else-known-eq-ERROR_FIELDS-via-else-known-eq-ERROR_FIELDS w ↦
          type_bytes _ _ c.if-known-number.false w.if-known-eq-ERROR_FIELDS.false
    ]
