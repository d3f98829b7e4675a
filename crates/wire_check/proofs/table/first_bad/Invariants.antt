-- The search from i on finds what the whole finds.
use Rattle.std.proofs.Common.{◌≡◌, ◌/◌, length}
use Rattle.wire.specs.Layout.{entry_words}
use Rattle.wire_check.proofs.TableLaws.{Seeks}
use Rattle.wire_check.proofs.table.first_bad.Given as goal

abbrev pub invariant-loop-i : goal.invariant-loop-i
invariant-loop-i l = (l.n ≡ length l.values / entry_words) × Seeks (length l.area) l.values l.i
