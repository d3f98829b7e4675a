-- `crc64_long::pay` meets its contract: a byte more is paid. Assumes nothing.
use Rattle.std.proofs.Common.{◌∙◌, rules}
use Rattle.crc64_long.proofs.Kept.{pay_one, paid_up}
use Rattle.crc64_long.proofs.pay.Goals as goal

pub loop-k-preserved : goal.loop-k-preserved
loop-k-preserved c =
    let first = c.args in
    let at = c.loop-k in
    pay_one at.k first.place first.window.now at.tail first.tail.now c.requires.0 c.requires.1 ((search rules, search rules)) at.invariant

pub returns : goal.returns
returns c =
    let first = c.args in
    let at = c.loop-k in
    (at.invariant.long ∙ c.requires.1, paid_up at.k first.place first.window.now at.tail first.tail.now c.requires.0 c.requires.1 c.requires.2 (search rules) at.invariant)
