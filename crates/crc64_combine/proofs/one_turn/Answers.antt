-- `crc64_combine::one_turn` meets its contract: a term more, and all terms. Assumes nothing.
use Rattle.std.proofs.Common.{◌%◌, rules}
use native.Mathlib.Nat.{mod-lt}
use lib.Dec.{lit<}
use Rattle.crc64_combine.proofs.Loops.{bit_times_lt, term, summed, even, odd}
use Rattle.crc64_combine.proofs.one_turn.Goals as goal

pub overflow_mul-product : goal.overflow_mul-product
overflow_mul-product c =
    record { fits = bit_times_lt (c.loop.terms % 2) c.loop.shifted (mod-lt c.loop.terms (lit< tt)) c.loop.invariant.0 }

pub overflow_mul-square : goal.overflow_mul-square
overflow_mul-square c =
    record { fits = bit_times_lt (c.loop.own % 2) c.loop.shifted (mod-lt c.loop.own (lit< tt)) c.loop.invariant.0 }

pub loop-preserved : goal.loop-preserved
loop-preserved c =
    let at = c.loop in (
      search rules,
      term at.product at.shifted at.terms at.counter (search rules) c.stepped-shifted.ensures at.invariant.1,
      term at.square at.shifted at.own at.counter (search rules) c.stepped-shifted.ensures at.invariant.2,
    )

pub returns-then-n-eq0 : goal.returns-then-n-eq0
returns-then-n-eq0 c =
    let at = c.loop in
    (even _ _ _ (search rules), summed at.square at.shifted at.own at.counter (search rules) at.invariant.2)

pub returns : goal.returns
returns c =
    let at = c.loop in (
      odd _ _ _ (search rules) (summed at.product at.shifted at.terms at.counter (search rules) at.invariant.1),
      summed at.square at.shifted at.own at.counter (search rules) at.invariant.2,
    )
