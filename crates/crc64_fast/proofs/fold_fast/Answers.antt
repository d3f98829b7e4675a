-- `crc64_fast::fold_fast` meets its contract: the register is swapped, folded, and swapped back. Assumes nothing.
use Rattle.crc64_fast.proofs.Turn.{by_value}
use Rattle.crc64_fast.proofs.fold_fast.Goals as goal

pub returns : goal.returns
returns c =
    let first = c in
    by_value first.args.register first.args.bytes.now c.swap_bytes.ensures c.fold_held.ensures
    c.swap_bytes-2.ensures first.ranges.register.fits
