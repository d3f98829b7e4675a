-- `check::byte_at` meets its contract. Assumes nothing.
use mathlib.Core.Path.{sym}
use lib.ListN.{get_or-eq_default}
use Rattle.text_walk.proofs.check.byte_at.Goals as goal

pub returns-then-text-at : goal.returns-then-text-at
returns-then-text-at c =
    let start = c in
    let a = start.args in
    sym (get_or-eq_default a.text.now 0 {n = a.at} c.if-text-at.true)
