-- `move_all` meets its contract. The invariant: the entries from i on have their new words. Assumes nothing.
use mathlib.Core.Path.{refl}
use native.Mathlib.Omega.{arith}
use Rattle.pack_plain.proofs.PlainLaws.{place_begin, place_end, place_inside, place_fits, place_go}
use Rattle.pack_plain.proofs.move_all.Goals as goal

pub loop-i-init : goal.loop-i-init
loop-i-init c = place_begin _ c.requires.0

pub new_word-requires : goal.new_word-requires
new_word-requires c = (place_inside _ _ _ c.loop-i.invariant _ refl (omega arith), place_fits _ _ _ c.loop-i.invariant _ refl (omega arith) c.requires.1)

pub overflow_mul-values : goal.overflow_mul-values
overflow_mul-values c =
    omega (arith, place_inside _ _ _ c.loop-i.invariant _ refl (omega arith), c.well_formed, c.loop-i.invariant.as_long)

pub overflow_add-values : goal.overflow_add-values
overflow_add-values c =
    omega (arith, place_inside _ _ _ c.loop-i.invariant _ refl (omega arith), c.well_formed, c.loop-i.invariant.as_long)

pub offset_bounds-values-i : goal.offset_bounds-values-i
offset_bounds-values-i c =
    omega (arith, place_inside _ _ _ c.loop-i.invariant _ refl (omega arith), c.well_formed, c.loop-i.invariant.as_long)

pub bounds-values-i : goal.bounds-values-i
bounds-values-i c = omega (arith, place_inside _ _ _ c.loop-i.invariant _ refl (omega arith))

pub loop-i-preserved : goal.loop-i-preserved
loop-i-preserved c = place_go _ _ _ c.loop-i.invariant _ refl (omega arith) _ c.new_word.ensures

pub shape_of-values : goal.shape_of-values
shape_of-values c = c.loop-i.invariant.as_long

pub returns : goal.returns
returns c = place_end _ _ _ c.loop-i.invariant (omega arith)
