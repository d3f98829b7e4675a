-- The entries before i are moved, and the rest are as they were.
use Rattle.std.proofs.Common.{◌≡◌}
use Rattle.wire_check.specs.Writing.{entries_in}
use Rattle.pack_links.specs.Statement.{plain}
use Rattle.pack_links.proofs.MoveLaws.{Moving}
use Rattle.pack.proofs.move_all.Given as goal

abbrev pub invariant-loop-i : goal.invariant-loop-i
invariant-loop-i l = (l.size ≡ entries_in (plain l.initial.values)) × Moving (plain l.initial.values) l.initial.values l.values l.at l.i
