-- `sized` meets its contract: the lines behind the variable header's checksum, one return each.
-- Assumes nothing.
use mathlib.Core.Path.{◌≡◌, ap}
use Prim.Native.Nat.{ℕ, ◌+◌, ◌*◌}
use native.Mathlib.Omega.{arith}
use Rattle.packet.specs.Layout.{whole}
use Rattle.packet_read.proofs.OrderLaws.{sized_long, sized_more, sized_passes}
use Rattle.packet_read.proofs.sized.Goals as goal

pub returns-then-limit-size : goal.returns-then-limit-size
returns-then-limit-size c rest = let told = c.in_ok-payload.ensures in
    sized_long _ _ _ rest _ told.0 (ap (λ (n : ℕ). 44 + 12 * c.args.count + n) told.1) c.if-limit-size.true

pub returns-then-input-size : goal.returns-then-input-size
returns-then-input-size c rest = let told = c.in_ok-payload.ensures in
    sized_more _ _ _ rest _ told.0 (ap (λ (n : ℕ). 44 + 12 * c.args.count + n) told.1) c.if-limit-size.false c.if-input-size.true

pub returns : goal.returns
returns c =
    let payload2 = c.in_ok-payload in
    let told = payload2.ensures in
    let start = c in
    let total : 44 + 12 * start.args.count + payload2.payload ≡ whole start.args.input.now start.args.count = ap (λ (n : ℕ). 44 + 12 * start.args.count + n) told.1 in
    ((λ rest. sized_passes _ _ _ rest _ told.0 total c.if-limit-size.false c.if-input-size.false), omega arith, total)
