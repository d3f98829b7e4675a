-- `checksum::checksum` meets its contract: the register that is held, swapped back, by each engine. Assumes nothing.
use Rattle.checksum.proofs.Stretches.{swapped_back}
use borrow.Author.Rules.{rules}
use Rattle.checksum.proofs.checksum.Goals as goal

pub returns-then-bytes-lt-LANES_FROM : goal.returns-then-bytes-lt-LANES_FROM
returns-then-bytes-lt-LANES_FROM c = search (rules, swapped_back)

pub returns-then-bytes-lt-LONG_FROM : goal.returns-then-bytes-lt-LONG_FROM
returns-then-bytes-lt-LONG_FROM c = search (rules, swapped_back)

pub returns : goal.returns
returns c = search (rules, swapped_back)
