-- `check::place_word` meets its contract. The invariant: what is still to come of the reading is the whole of it. Assumes nothing.
use mathlib.Core.Path.{refl}
use Prim.Native.Nat.{◌+◌, ◌-◌}
use native.Mathlib.Omega.{arith}
use Rattle.text_walk.proofs.CheckLaws.{word_same, word_begins, word_done, word_early, word_off, word_on}
use Rattle.text_walk.proofs.check.place_word.Goals as goal

pub loop-k-init : goal.loop-k-init
loop-k-init c =
    let start = c.args.start in
    word_same _ start _ start (start + 0) 16 16 (omega arith) refl (word_begins _ _ _ c.requires)

pub returns-then-text-at : goal.returns-then-text-at
returns-then-text-at c = word_early _ _ _ _ _ c.loop-k.invariant (omega arith) c.if-text-at.true

pub returns-then-not-digit_fits : goal.returns-then-not-digit_fits
returns-then-not-digit_fits c =
    word_off _ _ _ _ _ c.loop-k.invariant (omega arith) c.if-text-at.false _ c.small_value.ensures _
    c.digit_fits.ensures c.if-not-digit_fits.true

pub loop-k-preserved : goal.loop-k-preserved
loop-k-preserved c =
    word_same _ _ _ _ _ _ _ (omega arith) (omega arith)
    (word_on _ _ _ _ _ c.loop-k.invariant (omega arith) c.if-text-at.false _ c.small_value.ensures _
    c.digit_fits.ensures c.if-not-digit_fits.false)

pub returns : goal.returns
returns c =
    let start = c.args.start in
    let k = c.loop-k.k in
    word_done _ start _ (start + 16) 0
    (word_same _ start _ (start + k) (start + 16) (16 - k) 0 (omega arith) (omega arith) c.loop-k.invariant) (omega arith)
