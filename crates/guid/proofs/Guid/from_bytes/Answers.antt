-- Nothing is left at `at`. Assumes nothing.
use Rattle.std.proofs.Common.{◌+◌, arith}
use Rattle.words.proofs.WordLaws.{word_past}
use Rattle.guid.proofs.Guid.from_bytes.Goals as goal

pub returns-then-bytes-at : goal.returns-then-bytes-at
returns-then-bytes-at c =
    let s = c.args.bytes.now in
    let at = c.args.at in
    rw (
      word_past 4 s at c.if-bytes-at.true,
      word_past 4 s (at + 4) (omega arith),
      word_past 4 s (at + 8) (omega arith),
      word_past 4 s (at + 12) (omega arith),
    )
