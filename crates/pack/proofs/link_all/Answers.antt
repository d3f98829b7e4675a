-- `link_all` meets its contract. The invariant: the entries before i are linked, and the sum is theirs.
-- Assumes nothing.
use mathlib.Core.Path.{refl, ◌∙◌, ap}
use native.Mathlib.Omega.{arith}
use Rattle.pack_links.proofs.WalkLaws.{begin, end, look_asks, skip_go, used_asks, used_go, new_asks, new_go}
use Rattle.std.specs.declared.option.Option.TheVariants.{Some}
use Rattle.pack.proofs.link_all.Goals as goal
use Rattle.pack.proofs.link_all.Goals.{in-None, in-Some-Known, in-Some-Free}

pub loop-i-init : goal.loop-i-init
loop-i-init c = (refl, begin _ c.requires)

pub look-requires : goal.look-requires
look-requires c = look_asks _ _ _ _ c.loop-i.invariant.1 c.requires (rw c.loop-i.invariant.0 at c.loop-i-test.true)

pub put_link-requires : goal.put_link-requires
put_link-requires c =
    used_asks _ _ _ _ c.loop-i.invariant.1 c.requires (rw c.loop-i.invariant.0 at c.loop-i-test.true) _ c.look.result c.look.ensures (c.in-Some-Known.is ∙ ap Some c.in-Some-Known.field-0-is)

pub put_link-requires-in-Some-Free : goal.put_link-requires-in-Some-Free
put_link-requires-in-Some-Free c =
    new_asks _ _ _ _ c.loop-i.invariant.1 c.requires (rw c.loop-i.invariant.0 at c.loop-i-test.true) _ c.look.result c.look.ensures (c.in-Some-Free.is ∙ ap Some c.in-Some-Free.field-0-is)

pub bounds-values-i : goal.bounds-values-i
bounds-values-i c = omega (arith, c.put_link-in-Some-Free.auto.values, c.loop-i.invariant.1.2.over.as_long)

pub loop-i-preserved : goal.loop-i-preserved
loop-i-preserved c =
    elim c.match-look.branch [
      | in-None w ↦
          rw (w.values-is, w.sum-is)
          (c.loop-i.invariant.0, skip_go _ _ _ _ c.loop-i.invariant.1 c.requires (rw c.loop-i.invariant.0 at c.loop-i-test.true) c.look.result c.look.ensures w.in-None.is)
      | in-Some-Known w ↦
          rw (w.values-is, w.sum-is)
          (c.loop-i.invariant.0, used_go _ _ _ _ c.loop-i.invariant.1 c.requires (rw c.loop-i.invariant.0 at c.loop-i-test.true) _ c.look.result c.look.ensures (w.in-Some-Known.is ∙ ap Some w.in-Some-Known.field-0-is) _ w.put_link.ensures)
      | in-Some-Free w ↦
          rw (w.values-is, w.sum-is)
          (c.loop-i.invariant.0, new_go _ _ _ _ c.loop-i.invariant.1 c.requires (rw c.loop-i.invariant.0 at c.loop-i-test.true) _ c.look.result c.look.ensures (w.in-Some-Free.is ∙ ap Some w.in-Some-Free.field-0-is) _ w.put_link-in-Some-Free.ensures _ w.add_capped-sum.ensures)
    ]

pub shape_of-values : goal.shape_of-values
shape_of-values c = c.loop-i.invariant.1.2.over.as_long

pub returns : goal.returns
returns c = end _ _ _ _ c.loop-i.invariant.1 (rw c.loop-i.invariant.0 at c.loop-i-test.false)
