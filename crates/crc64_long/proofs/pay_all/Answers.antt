-- `crc64_long::pay_all` meets its contract: what is owed from the seven places, the last one first. Assumes nothing.
use lib.ListN.{take}
use Rattle.crc64_long.proofs.Kept.{all_owed}
use Rattle.crc64_long.proofs.pay_all.Goals as goal

pub returns : goal.returns
returns c =
    let start = c in (
      c.pay-7.ensures.0,
      all_owed (take 1856 start.args.window.now) start.args.tail.now
          c.pay.ensures.1
          c.pay-2.ensures.1
          c.pay-3.ensures.1
          c.pay-4.ensures.1
          c.pay-5.ensures.1
          c.pay-6.ensures.1
          c.pay-7.ensures.1,
    )
