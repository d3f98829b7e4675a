-- `unlink_all` meets its contract. The invariant: the words before k have no links. Assumes nothing.
use native.Mathlib.Omega.{arith}
use Rattle.pack_links.proofs.TurnLaws.{turned_begin}
use Rattle.pack_links.proofs.MoveLaws.{unlink_go, unlink_end}
use Rattle.pack_links.proofs.unlink_all.Goals as goal

pub loop-k-init : goal.loop-k-init
loop-k-init c = turned_begin _ _

pub plain_word-requires : goal.plain_word-requires
plain_word-requires c = (omega (arith, c.loop-k.invariant.as_long))

pub offset_bounds-values-k : goal.offset_bounds-values-k
offset_bounds-values-k c = omega (arith, c.well_formed, c.loop-k.invariant.as_long)

pub bounds-values-k : goal.bounds-values-k
bounds-values-k c = (omega (arith, c.loop-k.invariant.as_long))

pub loop-k-preserved : goal.loop-k-preserved
loop-k-preserved c = unlink_go _ _ _ _ c.loop-k.invariant (omega (arith, c.loop-k.invariant.as_long)) c.plain_word.ensures

pub shape_of-values : goal.shape_of-values
shape_of-values c = c.loop-k.invariant.as_long

pub returns : goal.returns
returns c = unlink_end _ _ _ c.loop-k.invariant (omega (arith, c.loop-k.invariant.as_long))
