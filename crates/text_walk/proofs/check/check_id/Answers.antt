-- `check::check_id` meets its contract. The invariant: what is still to come of the reading is the whole of it. Assumes nothing.
use mathlib.Core.Path.{refl}
use native.Mathlib.Omega.{arith}
use Rattle.text_walk.proofs.CheckLaws.{id_early, id_colon, id_stop, id_more}
use Rattle.text_steps.proofs.StepLaws.{number_low, number_high, number_zero, number_over, number_more}
use Rattle.text_walk.proofs.check.check_id.Goals as goal

pub loop-at-init : goal.loop-at-init
loop-at-init c =
    let start = c in
    (omega arith, start.requires.0, start.requires.1, λ rows cells. refl)

pub returns-then-byte-eq58 : goal.returns-then-byte-eq58
returns-then-byte-eq58 c = id_colon _ _ _ _ _ c.loop-at.invariant c.loop-at-test.true c.if-byte-eq58.true

pub returns-then-byte-lt48 : goal.returns-then-byte-lt48
returns-then-byte-lt48 c = id_stop _ _ _ _ _ c.loop-at.invariant c.loop-at-test.true (λ rows cells. number_low rows cells _ _ c.if-byte-lt48.true)

pub returns-then-byte-gt57 : goal.returns-then-byte-gt57
returns-then-byte-gt57 c = id_stop _ _ _ _ _ c.loop-at.invariant c.loop-at-test.true (λ rows cells. number_high rows cells _ _ c.if-byte-eq58.false c.if-byte-gt57.true)

pub returns-then-id-eq0 : goal.returns-then-id-eq0
returns-then-id-eq0 c = id_stop _ _ _ _ _ c.loop-at.invariant c.loop-at-test.true (λ rows cells. number_zero rows cells _ _ c.if-byte-eq58.false c.if-byte-lt48.false c.if-byte-gt57.false c.if-id-eq0.true)

pub returns-then-more-gt65535 : goal.returns-then-more-gt65535
returns-then-more-gt65535 c = id_stop _ _ _ _ _ c.loop-at.invariant c.loop-at-test.true (λ rows cells. number_over rows cells _ _ c.if-byte-eq58.false c.if-byte-lt48.false c.if-byte-gt57.false c.if-id-eq0.false c.if-more-gt65535.true)

pub loop-at-preserved : goal.loop-at-preserved
loop-at-preserved c = id_more _ _ _ _ _ c.loop-at.invariant c.loop-at-test.true _ c.if-more-gt65535.false (λ rows cells. number_more rows cells _ _ c.if-byte-eq58.false c.if-byte-lt48.false c.if-byte-gt57.false c.if-id-eq0.false c.if-more-gt65535.false)

pub returns : goal.returns
returns c = id_early _ _ _ _ _ c.loop-at.invariant (omega arith) _ (omega (arith, c.loop-at.invariant.1))
