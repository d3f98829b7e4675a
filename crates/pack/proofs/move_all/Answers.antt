-- `move_all` meets its contract. The invariant: the entries before i have their new words. Assumes nothing.
use mathlib.Core.Path.{sym, ap}
use Prim.Native.Nat.{ℕ, ◌/◌}
use Rattle.pack_links.proofs.MoveLaws.{plain_long, move_begin, move_long, move_inside, next_asks, move_go, move_end}
use Rattle.wire.specs.Layout.{entry_words}
use Rattle.pack.proofs.move_all.Goals as goal

pub loop-i-init : goal.loop-i-init
loop-i-init c = (ap (λ (n : ℕ). n / entry_words) (sym (plain_long _)), move_begin _ _ c.requires)

pub next_at-next-requires : goal.next_at-next-requires
next_at-next-requires c = next_asks _ _ c.requires _ _ _ c.loop-i.invariant.1 (rw c.loop-i.invariant.0 at c.loop-i-test.true)

pub new_word-word-requires : goal.new_word-word-requires
new_word-word-requires c =
    move_inside _ _ c.requires _ _ _ c.loop-i.invariant.1 (rw c.loop-i.invariant.0 at c.loop-i-test.true)

pub settle-requires : goal.settle-requires
settle-requires c =
    move_inside _ _ c.requires _ _ _ c.loop-i.invariant.1 (rw c.loop-i.invariant.0 at c.loop-i-test.true)

pub loop-i-preserved : goal.loop-i-preserved
loop-i-preserved c =
    (c.loop-i.invariant.0, move_go _ _ c.requires _ _ _ c.loop-i.invariant.1 (rw c.loop-i.invariant.0 at c.loop-i-test.true) _ _ _ c.new_word-word.ensures c.next_at-next.ensures c.settle.ensures)

pub shape_of-values : goal.shape_of-values
shape_of-values c = move_long _ _ c.requires _ _ _ c.loop-i.invariant.1

pub returns : goal.returns
returns c = move_end _ _ c.requires _ _ _ c.loop-i.invariant.1 (rw c.loop-i.invariant.0 at c.loop-i-test.false)
