-- `first_use` meets its contract. The invariant: the search from j on finds what the whole finds.
-- Assumes nothing.
use mathlib.Core.Path.{◌≡◌, ◌∙◌}
use native.Mathlib.Omega.{arith}
use Rattle.pack_plain.proofs.PlainLaws.{seek_begin, seek_hit, seek_miss, seek_end}
use Rattle.pack_plain.proofs.first_use.Goals as goal

pub loop-j-init : goal.loop-j-init
loop-j-init c = (omega arith, seek_begin _ _)

pub uses-requires : goal.uses-requires
uses-requires c =
    (omega (arith, c.requires), c.requires)

pub returns-then-uses : goal.returns-then-uses
returns-then-uses c = seek_hit _ _ _ c.loop-j.invariant.1 _ c.uses.ensures (omega arith) c.if-uses.true

pub loop-j-preserved : goal.loop-j-preserved
loop-j-preserved c = (omega arith, seek_miss _ _ _ c.loop-j.invariant.1 _ c.uses.ensures (omega arith) c.if-uses.false)

pub returns : goal.returns
returns c =
    let all : c.args.i ≡ c.loop-j.j = omega arith in
    all ∙ seek_end _ _ _ c.loop-j.invariant.1 (omega arith) (omega arith)
