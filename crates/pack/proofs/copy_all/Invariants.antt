-- What the entries before i store is copied.
use Rattle.std.proofs.Common.{◌≡◌}
use Rattle.wire_check.specs.Writing.{entries_in}
use Rattle.pack_links.specs.Statement.{plain}
use Rattle.pack_links.proofs.CopyLaws.{Copying}
use Rattle.pack.proofs.copy_all.Given as goal

abbrev pub invariant-loop-i : goal.invariant-loop-i
invariant-loop-i l = (l.size ≡ entries_in (plain l.values)) × Copying l.area (plain l.values) l.initial.out l.out l.at l.i
