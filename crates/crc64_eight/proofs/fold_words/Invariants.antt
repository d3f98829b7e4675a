-- What is still to come, from the register that is held, gives what all gives from the first. Assumes nothing.
use Rattle.std.proofs.Common.{◌≡◌, ◌*◌, ◌/◌, length}
use Rattle.crc64_eight.specs.Lent.{fold_words}
use Rattle.crc64_eight.proofs.Turn.{left}
use Rattle.crc64_eight.proofs.fold_words.Given as goal

abbrev pub invariant-loop-n : goal.invariant-loop-n
invariant-loop-n l =
    left l.tables l.folded l.bytes (8 * l.n) ≡ fold_words l.tables (length l.bytes / 8) l.register l.bytes
