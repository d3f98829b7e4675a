-- `first_word` meets its contract: all that is there read, or the stretch alone read and put. Assumes nothing.
use mathlib.Core.Path.{refl, sym}
use lib.Seq.{length-take-le}
use Rattle.crc64_fast.proofs.Walk.{only_read, also_put}
use Rattle.crc64_fast.proofs.first_word.Goals as goal

pub returns-then-short : goal.returns-then-short
returns-then-short c =
    let taken = c.if-short.true in
    (only_read _ _ taken c.read_u64.ensures, only_read _ _ taken refl)

pub slice_bounds-read_u64-end : goal.slice_bounds-read_u64-end
slice_bounds-read_u64-end c =
    let start = c in
    sym (length-take-le start.args.count start.args.bytes.now start.requires.1)

pub write_low-requires : goal.write_low-requires
write_low-requires c =
    let start = c in
    (start.requires.0, start.requires.2 c.if-short.false)

pub returns : goal.returns
returns c =
    let left = c.if-short.false in
    (also_put _ _ left c.read_u64-word.ensures, also_put _ _ left c.write_low.ensures)
