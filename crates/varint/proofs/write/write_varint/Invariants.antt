-- The groups that are still to come belong behind those written. Assumes nothing.
use Rattle.std.proofs.Common.{◌-◌}
use Rattle.words.specs.Stages.{Filling}
use Rattle.varint.specs.Varint.{groups, varint}
use Rattle.varint.proofs.WriteLaws.{Shrinking}
use Rattle.varint.proofs.write.write_varint.Given as goal

abbrev pub invariant-loop-i : goal.invariant-loop-i
invariant-loop-i l = Shrinking l.n l.rest l.i × Filling (varint l.n) (groups (10 - l.i) l.rest) l.initial.out l.out l.i
