-- `packet_lines` meets its contract. Assumes nothing.
use native.Mathlib.Omega.{arith}
use Rattle.listing.proofs.TextLaws.{wrote_then}
use Rattle.listing.proofs.packet_lines.Goals as goal

pub returns : goal.returns
returns c = let first = c.packet_line-parts_at.ensures in
    let second = c.part_lines.ensures in
    (wrote_then (omega (arith, first.1)) first.0 second.0, omega (arith, first.1, second.1))
