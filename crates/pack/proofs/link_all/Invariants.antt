-- The entries before i are linked, and the sum is that of their pairs.
use Rattle.std.proofs.Common.{◌≡◌}
use Rattle.wire_check.specs.Writing.{entries_in}
use Rattle.pack_links.proofs.WalkLaws.{SoFar}
use Rattle.pack.proofs.link_all.Given as goal

abbrev pub invariant-loop-i : goal.invariant-loop-i
invariant-loop-i l = (l.size ≡ entries_in l.initial.values) × SoFar l.initial.values l.values l.sum l.i
