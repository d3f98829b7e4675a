-- `crc64_combine::combine` meets its contract. Assumes nothing.
use mathlib.Core.Path.{ap}
use Prim.Native.Nat.{ℕ}
use lib.Bits.{bit_xor}
use Rattle.crc64_combine.specs.Combined.{combined}
use Rattle.crc64_combine.proofs.combine.Goals as goal

pub returns : goal.returns
unfolding combined
returns c = ap (λ (z : ℕ). bit_xor z c.args.b) c.advanced.ensures
