-- Folding what is still to come into the register folds all into the first. Assumes nothing.
use Rattle.std.proofs.Common.{◌≡◌, drop}
use Rattle.crc64.specs.Table.{fold_over}
use Rattle.crc64.proofs.fold_over.Given as goal

abbrev pub invariant-loop-byte : goal.invariant-loop-byte
invariant-loop-byte l = fold_over l.table l.folded (drop l.byte-index l.bytes) ≡ fold_over l.table l.register l.bytes
