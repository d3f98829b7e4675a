-- What the entries before i store is copied.
use Rattle.std.proofs.Common.{◌≡◌}
use Rattle.wire_check.specs.Writing.{entries_in}
use Rattle.pack_plain.proofs.PlainLaws.{Copying}
use Rattle.pack_plain.proofs.copy_all.Given as goal

abbrev pub invariant-loop-i : goal.invariant-loop-i
invariant-loop-i l = (l.size ≡ entries_in l.values) × Copying l.area l.values l.initial.out l.out l.at l.i
