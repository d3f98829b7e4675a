-- `seal` meets its contract. Assumes nothing.
use mathlib.Core.Path.{sym}
use mathlib.Core.List.{List}
use Prim.Native.Nat.{ℕ}
use native.Mathlib.Omega.{arith}
use lib.ListN.{take}
use lib.Seq.{length-take-le}
use Rattle.crc64.specs.Polynomial.{checksum}
use Rattle.packet_write.proofs.FillingLaws.{sealing, word_closes}
use Rattle.packet_write.proofs.seal.Goals as goal

pub slice_bounds-checksum-end-2 : goal.slice_bounds-checksum-end-2
slice_bounds-checksum-end-2 c = sym (length-take-le c.args.size c.args.out.now (omega arith))

pub returns : goal.returns
returns c =
    let start = c in
    let size : ℕ = start.args.size in
    let before : List ℕ = start.args.out.now in
    word_closes 8 (checksum (take size before)) (sealing size before start.requires) (rw c.checksum-sum.ensures at c.write_u64.ensures)
