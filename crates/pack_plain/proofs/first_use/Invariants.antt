-- The search from j on finds what the whole finds.
use Rattle.std.proofs.Common.{◌≤◌}
use Rattle.pack_plain.proofs.PlainLaws.{Seeks}
use Rattle.pack_plain.proofs.first_use.Given as goal

abbrev pub invariant-loop-j : goal.invariant-loop-j
invariant-loop-j l = (l.j ≤ l.i) × Seeks l.values l.i l.j
