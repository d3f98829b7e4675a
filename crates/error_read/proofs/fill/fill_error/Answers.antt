-- The outermost error's entry, then what it holds. Assumes nothing.
use Rattle.std.proofs.Common.{arith}
use Rattle.error_read.proofs.HeldLaws.{root_fits, root_room, root_fills}
use Rattle.error_read.proofs.fill.fill_error.Goals as goal

pub put_error-requires : goal.put_error-requires
put_error-requires c = root_fits _ _ _ c.requires

pub fill_held-requires : goal.fill_held-requires
fill_held-requires c =
    (omega arith, omega arith, omega arith, root_room _ _ _ c.requires _ c.scan-own.ensures _ c.put_error.ensures)

pub returns : goal.returns
returns c =
    root_fills _ _ _ c.requires _ c.scan-own.ensures _ c.put_error.ensures _ _ c.fill_held.result c.fill_held.ensures
