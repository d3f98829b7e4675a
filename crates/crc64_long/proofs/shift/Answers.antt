-- `crc64_long::shift` meets its contract: what std copies within the window is its front. Assumes nothing.
use Rattle.std.proofs.Common.{◌≡◌, ◌-◌, ◌+◌, ◌∙◌, arith, drop, length-drop}
use Rattle.std.proofs.lemmas.List.Edits.{take-paste}
use Rattle.crc64_long.proofs.shift.Goals as goal

pub returns : goal.returns
returns c =
    let window = c.args.window.now in
    let count = c.args.count in
    let span : count + 1856 - count ≡ 1856 = omega arith in (
      c.copy_within.ensures.len ∙ c.requires.0,
      rw c.copy_within.ensures.after (rw span (take-paste window 0 (drop count window) 1856 (omega arith) (omega (arith, length-drop count window, c.requires.0, c.requires.1)))),
    )
