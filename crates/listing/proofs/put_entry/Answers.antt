-- `put_entry` meets its contract: the null mark, or a number and whether it was guarded. Assumes nothing.
use native.Mathlib.Omega.{arith}
use Rattle.listing.proofs.TextLaws.{wrote_then, wrote_as, null_entry, some_entry}
use Rattle.listing.proofs.put_entry.Goals as goal

pub returns-then-size-eq-NULL_LENGTH : goal.returns-then-size-eq-NULL_LENGTH
returns-then-size-eq-NULL_LENGTH c =
    let start = c in
    let word = c.put_bytes.ensures in
    (wrote_as (null_entry start.args.size start.args.sum c.if-size-eq-NULL_LENGTH.true) word, omega (arith, word.ends))

pub returns : goal.returns
returns c =
    let start = c in
    let number = c.put_field-guard_at.ensures in
    let guard = c.put_guard.ensures in
    (wrote_as (some_entry start.args.size start.args.sum c.if-size-eq-NULL_LENGTH.false) (wrote_then (omega (arith, number.1)) number.0 guard.0), omega (arith, number.1, guard.1))
