-- `part_lines` meets its contract. The invariant: the lines of the parts passed stand at `at`, at most 55 bytes each.
-- Assumes nothing.
use mathlib.Core.Path.{refl, ◌∙◌}
use native.Mathlib.Omega.{arith}
use Rattle.listing.proofs.TextLaws.{no_parts, part_more, parts_all}
use Rattle.listing.proofs.part_lines.Goals as goal

pub loop-index-init : goal.loop-index-init
loop-index-init c = (refl, omega arith, no_parts c.args.parts.now c.args.at c.args.out.now)

pub loop-index-preserved : goal.loop-index-preserved
loop-index-preserved c =
    let turn = c in
    let at_top = turn.loop-index.invariant in
    let done = c.part_line-next in
    (done.auto.out ∙ at_top.0, omega (arith, done.ensures.1), part_more c.args.parts.now turn.loop-index.index (omega arith) at_top.2 done.ensures.0)

pub shape_of-out : goal.shape_of-out
shape_of-out c = c.loop-index.invariant.0

pub returns : goal.returns
returns c =
    let start = c in
    (parts_all start.args.parts.now c.loop-index.index start.args.count (omega arith) c.loop-index-test.false c.loop-index.invariant.2, omega arith)
