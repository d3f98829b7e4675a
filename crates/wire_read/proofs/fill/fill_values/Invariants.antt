-- What is still to be stored over the table as it stands is the whole.
use Rattle.std.proofs.Common.{◌-◌}
use Rattle.wire_read.proofs.FillLaws.{EntriesLeft}
use Rattle.wire_read.proofs.fill.fill_values.Given as goal

abbrev pub invariant-loop-n : goal.invariant-loop-n
invariant-loop-n l = EntriesLeft l.input l.count l.start l.initial.values l.first l.values (l.count - l._n) l.at l.k
