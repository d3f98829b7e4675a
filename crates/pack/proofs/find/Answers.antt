-- `find` meets its contract. The invariant: what is sought lies ahead of the word at which the search stands.
-- Assumes nothing.
use mathlib.Core.Path.{refl, sym, ◌∙◌}
use native.Mathlib.Omega.{arith}
use Rattle.pack_links.proofs.LinkLaws.{sought_begin, ended, linked_within, found, step_falls, step}
use Rattle.pack.proofs.find.Goals as goal

pub loop-link-init : goal.loop-link-init
loop-link-init c = (refl, sought_begin _ _ _ c.requires.1 c.requires.2)

pub overflow_sub-k : goal.overflow_sub-k
overflow_sub-k c = omega arith

pub same_pair-requires : goal.same_pair-requires
same_pair-requires c = (linked_within _ _ _ c.requires.3 _ _ _ c.loop-link.invariant.1 _ _ c.loop-link.invariant.0 c.loop-link-test.true refl, c.requires.0)

pub returns-then-same_pair : goal.returns-then-same_pair
returns-then-same_pair c =
    found _ _ _ c.requires.3 _ _ _ c.loop-link.invariant.1 _ _ c.loop-link.invariant.0 c.loop-link-test.true refl (sym c.same_pair.ensures ∙ c.if-same_pair.true)

pub overflow_mul-slot : goal.overflow_mul-slot
overflow_mul-slot c =
    omega (arith, linked_within _ _ _ c.requires.3 _ _ _ c.loop-link.invariant.1 _ _ c.loop-link.invariant.0 c.loop-link-test.true refl)

pub overflow_add-slot : goal.overflow_add-slot
overflow_add-slot c =
    omega (arith, linked_within _ _ _ c.requires.3 _ _ _ c.loop-link.invariant.1 _ _ c.loop-link.invariant.0 c.loop-link-test.true refl)

pub overflow_add-slot-in-loop-link : goal.overflow_add-slot-in-loop-link
overflow_add-slot-in-loop-link c =
    omega (arith, linked_within _ _ _ c.requires.3 _ _ _ c.loop-link.invariant.1 _ _ c.loop-link.invariant.0 c.loop-link-test.true refl)

pub offset_bounds-values-slot-in-loop-link : goal.offset_bounds-values-slot-in-loop-link
offset_bounds-values-slot-in-loop-link c =
    omega (arith, linked_within _ _ _ c.requires.3 _ _ _ c.loop-link.invariant.1 _ _ c.loop-link.invariant.0 c.loop-link-test.true refl)

pub bounds-values-slot-in-loop-link : goal.bounds-values-slot-in-loop-link
bounds-values-slot-in-loop-link c =
    omega (arith, linked_within _ _ _ c.requires.3 _ _ _ c.loop-link.invariant.1 _ _ c.loop-link.invariant.0 c.loop-link-test.true refl)

pub loop-link-smaller : goal.loop-link-smaller
loop-link-smaller c =
    step_falls _ _ _ c.requires.3 _ _ _ c.loop-link.invariant.1 _ _ c.loop-link.invariant.0 c.loop-link-test.true refl

pub loop-link-preserved : goal.loop-link-preserved
loop-link-preserved c =
    (refl, step _ _ _ c.requires.3 _ _ _ c.loop-link.invariant.1 _ _ c.loop-link.invariant.0 c.loop-link-test.true refl (sym c.same_pair.ensures ∙ c.if-same_pair.false))

pub returns : goal.returns
returns c = ended _ _ _ c.requires.3 _ _ _ c.loop-link.invariant.1 (omega (arith, c.loop-link.invariant.0))
