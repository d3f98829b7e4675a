-- The fields of a message, one by one. Assumes nothing.
use Rattle.std.proofs.Common.{arith}
use Rattle.error_read.proofs.FillLaws.{scanning, scanned, scanned_end, scans, none_left, step}
use Rattle.error_read.proofs.fill.scan.Goals as goal

pub loop-at-init : goal.loop-at-init
loop-at-init c = scanning _ _ _ _ c.requires.0

pub returns-in_default : goal.returns-in_default
returns-in_default c = scanned c.loop-at.invariant (none_left _ _ _ _ (c.in_default.ensures))

pub loop-at-smaller : goal.loop-at-smaller
loop-at-smaller c = omega (arith, step _ _ _ _ _ (c.in-Some.ensures))

pub loop-at-preserved : goal.loop-at-preserved
loop-at-preserved c =
    scans c.loop-at.invariant _ (c.in-Some.ensures) _ c.choose.ensures c.choose-in-loop-at.ensures
    c.choose-in-loop-at-2.ensures c.choose-in-loop-at-3.ensures

pub returns : goal.returns
returns c = scanned_end c.loop-at.invariant c.loop-at-test.false
