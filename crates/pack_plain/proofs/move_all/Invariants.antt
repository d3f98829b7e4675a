-- The entries from i on are moved, and those before it are as they were.
use Rattle.pack_plain.proofs.PlainLaws.{Placed}
use Rattle.pack_plain.proofs.move_all.Given as goal

abbrev pub invariant-loop-i : goal.invariant-loop-i
invariant-loop-i l = Placed l.initial.values l.values l.i
