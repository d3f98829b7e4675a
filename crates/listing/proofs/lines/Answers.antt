-- `lines` meets its contract, by its loop's invariant. Assumes nothing.
use mathlib.Core.Path.{refl, ◌∙◌}
use native.Mathlib.Omega.{arith}
use Rattle.listing.proofs.WalkLaws.{listing_begins, listing_goes_on, listing_ends}
use Rattle.listing.proofs.lines.Goals as goal

pub loop-end-init : goal.loop-end-init
loop-end-init c = (refl, refl, listing_begins c.args.input.now c.args.out.now)

pub step-requires : goal.step-requires
step-requires c =
    let inv = c.loop-end.invariant in
    (c.requires.0, inv.2.inside, inv.2.early, omega (arith, inv.1, c.requires.1), inv.0 ∙ c.requires.2)

pub shape_of-parts-in-Last : goal.shape_of-parts-in-Last
shape_of-parts-in-Last c = c.step.auto.parts ∙ c.loop-end.invariant.0

pub shape_of-out-in-Last : goal.shape_of-out-in-Last
shape_of-out-in-Last c = c.step.auto.out ∙ c.loop-end.invariant.1

pub returns-in-Last : goal.returns-in-Last
returns-in-Last c =
    let told = rw c.in-Last.is at c.step.ensures in
    let inv = c.loop-end.invariant in
    listing_ends (omega (arith, inv.2.early, inv.2.inside, c.requires)) inv.2 told

pub loop-end-smaller : goal.loop-end-smaller
loop-end-smaller c =
    let told = rw c.in-Packet.is at c.step.ensures in
    omega (arith, told.behind, told.inside)

pub loop-end-preserved : goal.loop-end-preserved
loop-end-preserved c =
    let step = c.step in
    let told = rw c.in-Packet.is at step.ensures in
    let inv = c.loop-end.invariant in
    (step.auto.parts ∙ inv.0, step.auto.out ∙ inv.1, listing_goes_on (omega (arith, inv.2.early, inv.2.inside, c.requires)) inv.2 told)
