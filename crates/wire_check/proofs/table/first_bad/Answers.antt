-- `table::first_bad` meets its contract. The invariant: the search from i on finds what the whole finds.
-- Assumes nothing.
use mathlib.Core.Path.{◌≡◌, refl, ◌∙◌}
use Prim.Native.Nat.{◌/◌}
use native.Mathlib.Omega.{arith}
use lib.ListN.{length}
use Rattle.wire_check.proofs.TableLaws.{seek_begin, seek_hit, seek_miss, seek_end}
use Rattle.wire.specs.Layout.{entry_words}
use Rattle.wire_check.proofs.table.first_bad.Goals as goal

pub loop-i-init : goal.loop-i-init
loop-i-init c = (refl, seek_begin _ _)

pub returns-then-bad_entry : goal.returns-then-bad_entry
returns-then-bad_entry c = seek_hit _ _ _ c.loop-i.invariant.1 _ c.bad_entry.ensures (omega arith) c.if-bad_entry.true

pub loop-i-preserved : goal.loop-i-preserved
loop-i-preserved c = (c.loop-i.invariant.0, seek_miss _ _ _ c.loop-i.invariant.1 _ c.bad_entry.ensures (omega arith) c.if-bad_entry.false)

pub returns : goal.returns
returns c =
    let all : length c.args.values.now / entry_words ≡ c.loop-i.i = omega arith in
    all ∙ seek_end _ _ _ c.loop-i.invariant.1 (omega arith) (omega arith)
