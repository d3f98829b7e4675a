-- `cablefinch_part` meets its contract: nothing, or where the stretch lies. Assumes nothing.
use mathlib.Core.Path.{refl}
use borrow.Author.Tests.{ne_eqb}
use Rattle.face_parts.proofs.OutcomeLaws.{part_empty, part_outside, part_there}
use Rattle.face_parts.proofs.cablefinch_part.Goals as goal

pub returns-then-length-eq0 : goal.returns-then-length-eq0
returns-then-length-eq0 c = part_empty _ _ _ c.part-length.ensures.bytes c.if-length-eq0.true c.taken.ensures

pub returns-then-parts-index : goal.returns-then-parts-index
returns-then-parts-index c = part_empty _ _ _ (part_outside _ _ _ c.if-parts-index.true) refl c.taken-then-parts-index.ensures

pub returns : goal.returns
returns c = part_there _ _ _ c.part-length.ensures.bytes (ne_eqb _ 0 c.if-length-eq0.false) refl c.taken-2.ensures
