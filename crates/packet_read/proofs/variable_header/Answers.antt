-- `variable_header` meets its contract: the lines before its checksum, the checksum, and what is behind it.
-- Assumes nothing.
use mathlib.Core.Path.{refl}
use native.Mathlib.Nat.{add-sub_cancel_left}
use Prim.Native.Nat.{◌*◌}
use Rattle.packet_read.proofs.OrderLaws.{headers_long, headers_more, variable_fails, variable_passes, behind_variable}
use Rattle.packet_read.proofs.variable_header.Goals as goal

pub returns-then-limit-size : goal.returns-then-limit-size
returns-then-limit-size c rest = headers_long _ _ _ _ _ refl c.if-limit-size.true

pub returns-then-input-size : goal.returns-then-input-size
returns-then-input-size c rest = headers_more _ _ _ _ c.if-limit-size.false c.if-input-size.true

pub returns-in-Err : goal.returns-in-Err
returns-in-Err c rest = let k = c in
    let start = k in
    let told = rw (add-sub_cancel_left 36 (12 * start.args.count)) at c.in-Err.ensures in
    variable_fails _ _ _ _ k.if-limit-size.false _ k.if-input-size.false k.read_u64-expected.ensures _ told.0 told.1

pub returns : goal.returns
returns c =
    let told = rw (add-sub_cancel_left 36 (12 * c.args.count)) at c.in_default.ensures in
    behind_variable _ _ _ c.sized.result (λ rest. variable_passes _ _ _ rest c.if-limit-size.false _ c.if-input-size.false c.read_u64-expected.ensures told) c.sized.ensures
