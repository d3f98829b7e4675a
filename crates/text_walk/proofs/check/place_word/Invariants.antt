-- What `check::place_word` keeps true in its loop. Assumes nothing.
use Prim.Native.Nat.{◌+◌, ◌-◌}
use Rattle.text_walk.proofs.CheckLaws.{WordLeft}
use Rattle.text_walk.proofs.check.place_word.Given as goal

abbrev pub invariant-loop-k : goal.invariant-loop-k
invariant-loop-k l = WordLeft l.text l.start l.kind (l.start + l.k) (16 - l.k)
