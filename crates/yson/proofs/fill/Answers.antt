-- A pair that is to come is read, and its words stand behind those so far. Assumes nothing.
use Rattle.std.proofs.Common.{◌≡◌, ◌+◌, ◌*◌, arith}
use Rattle.yson.proofs.FillLaws.{filling_fails, filling_more}
use Rattle.yson.proofs.fill.Goals as goal

pub returns-in_default : goal.returns-in_default
returns-in_default c = absurd (filling_fails _ _ _ _ _ _ _ c.loop-item.invariant (omega arith) _ c.in_default.ensures)

pub loop-item-preserved : goal.loop-item-preserved
loop-item-preserved c =
    let next : 4 * (c.loop-item.item + 1) ≡ 4 * c.loop-item.item + 4 = omega arith in
    rw next (filling_more _ _ _ _ _ _ _ c.loop-item.invariant (omega arith) c.in-Ok.field-0.middle c.in-Ok.field-0.end c.in-Ok.ensures _ c.put_item.ensures)
