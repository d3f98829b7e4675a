-- `crc64_eight::fold_words` meets its contract: a word more, and the end. Assumes nothing.
use Rattle.std.proofs.Common.{◌≡◌, ◌+◌, ◌*◌, arith}
use Rattle.crc64_eight.proofs.Turn.{again, ended}
use Rattle.crc64_eight.proofs.fold_words.Goals as goal

pub loop-n-preserved : goal.loop-n-preserved
loop-n-preserved c =
    let next : 8 * (c.loop-n.n + 1) ≡ 8 * c.loop-n.n + 8 = omega arith in
    rw next
    (again c.args.tables.now c.loop-n.folded c.args.bytes.now (8 * c.loop-n.n) c.read_u64.ensures c.looked_up-folded.ensures (omega arith) c.loop-n.invariant)

pub returns : goal.returns
returns c = ended c.args.tables.now c.loop-n.folded c.args.bytes.now (8 * c.loop-n.n) (omega arith) c.loop-n.invariant
