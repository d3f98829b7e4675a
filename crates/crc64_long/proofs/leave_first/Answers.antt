-- `crc64_long::leave_first` meets its contract: the bytes leave, out of their copies where there are any. Assumes nothing.
use mathlib.Core.Path.{refl, sym, ◌∙◌}
use mathlib.Core.Bool.{true≢false}
use Rattle.crc64_long.proofs.leave_first.Goals as goal

pub leave_copied-requires : goal.leave_copied-requires
leave_copied-requires c =
    let start = c in
    (start.requires.0, start.requires.1, start.requires.2 c.if-copies.true)

pub returns : goal.returns
returns c = (c.leave_all.ensures.0, c.leave_all.ensures.1, refl, λ e. absurd (true≢false (sym e ∙ c.if-copies.false)))
