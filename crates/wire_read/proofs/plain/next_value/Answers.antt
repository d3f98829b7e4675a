-- `plain::next_value` meets its contract. Assumes nothing.
use native.Mathlib.Omega.{arith}
use Rattle.wire.proofs.LayoutLaws.{next_value_far}
use Rattle.wire_read.proofs.plain.next_value.Goals as goal

pub header_at-requires : goal.header_at-requires
header_at-requires c =
    omega (arith, next_value_far c.args.input.now c.args.at, c.requires)
