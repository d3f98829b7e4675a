-- Case by case of the wire type. Assumes nothing.
use Rattle.field.proofs.FieldLaws.{long, short}
use Rattle.field.proofs.field.read_payload.Goals as goal

pub returns-in-Fixed64 : goal.returns-in-Fixed64
returns-in-Fixed64 c = rw c.in-Fixed64.is (long _ _ _ c.requires _ c.read_fixed.ensures)

pub returns-in-Fixed32 : goal.returns-in-Fixed32
returns-in-Fixed32 c = rw c.in-Fixed32.is (short _ _ _ c.requires _ c.read_fixed-in-Fixed32.ensures)
