-- `write_fixed` meets its contract: the fields, and their checksum behind them. Assumes nothing.
use Prim.Native.Nat.{ℕ}
use Rattle.packet.specs.Paper.{type_number}
use Rattle.packet.specs.Wire.{fixed_fields}
use Rattle.packet_write.proofs.FillingLaws.{sealed_over}
use Rattle.packet_write.proofs.PieceLaws.{length_fixed}
use Rattle.packet_write.proofs.write_fixed.Goals as goal

pub returns : goal.returns
returns c =
    let start = c.args in
    let header = start.header in
    let type : ℕ = type_number header.packet_type in
    sealed_over (fixed_fields type header.flags.0 header.id header.parts) start.out.now (length_fixed type header.flags.0 header.id header.parts) c.write_fields.ensures c.seal.ensures
