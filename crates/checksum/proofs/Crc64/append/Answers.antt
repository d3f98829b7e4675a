-- `checksum::Crc64::append` meets its contract: the register is swapped, combined, and swapped back. Assumes nothing.
use mathlib.Core.Path.{ap, ◌∙◌}
use Prim.Native.Nat.{ℕ}
use Rattle.crc64.specs.Table.{swapped}
use Rattle.crc64_combine.specs.Combined.{combined}
use Rattle.checksum.proofs.Crc64.append.Goals as goal

pub returns : goal.returns
returns c =
    let given = c.args in
    c.swap_bytes.ensures
    ∙ ap (swapped 8) (c.combine.ensures ∙ ap (λ (r : ℕ). combined r given.checksum given.length) c.swap_bytes-register.ensures)
