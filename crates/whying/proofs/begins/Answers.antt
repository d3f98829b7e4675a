-- `begins` meets its contract. The invariant: the bytes still to be compared decide. Assumes nothing.
use mathlib.Core.Path.{refl}
use native.Mathlib.Omega.{arith}
use Rattle.whying.proofs.OutputLaws.{starts_short, starts_not, starts_go, starts_end}
use Rattle.whying.proofs.begins.Goals as goal

pub returns-then-input-word : goal.returns-then-input-word
returns-then-input-word c = starts_short c.args.word.now c.args.input.now c.if-input-word.true

pub loop-index-init : goal.loop-index-init
loop-index-init c = (omega arith, c.if-input-word.false, refl)

pub returns-then-input-index : goal.returns-then-input-index
returns-then-input-index c =
    let start = c in
    starts_not start.args.word.now start.args.input.now _ c.loop-index.invariant c.loop-index-test.true c.if-input-index.true

pub loop-index-preserved : goal.loop-index-preserved
loop-index-preserved c =
    let start = c in
    starts_go start.args.word.now start.args.input.now _ c.loop-index.invariant c.loop-index-test.true c.if-input-index.false

pub returns : goal.returns
returns c =
    let start = c in
    starts_end start.args.word.now start.args.input.now _ c.loop-index.invariant c.loop-index-test.false
