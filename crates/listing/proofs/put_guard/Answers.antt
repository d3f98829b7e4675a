-- `put_guard` meets its contract: the word is 0, or it is not. Assumes nothing.
use native.Mathlib.Omega.{arith}
use Rattle.listing.proofs.TextLaws.{wrote_as, bare_text, guarded_text}
use Rattle.listing.proofs.put_guard.Goals as goal

pub returns-then-sum-eq-NULL_CHECKSUM : goal.returns-then-sum-eq-NULL_CHECKSUM
returns-then-sum-eq-NULL_CHECKSUM c =
    let word = c.put_bytes.ensures in
    (wrote_as (bare_text c.args.sum c.if-sum-eq-NULL_CHECKSUM.true) word, omega (arith, word.ends))

pub returns : goal.returns
returns c =
    let word = c.put_bytes-2.ensures in
    (wrote_as (guarded_text c.args.sum c.if-sum-eq-NULL_CHECKSUM.false) word, omega (arith, word.ends))
