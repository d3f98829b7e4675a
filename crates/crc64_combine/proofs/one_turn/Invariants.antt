-- Each sum so far and the product with the terms still to come are that product. Assumes nothing.
use Rattle.std.proofs.Common.{◌≡◌, ◌-◌, ◌<◌, ◌^◌}
use Rattle.std.specs.Int.Bits.{bit_xor}
use Rattle.crc64_combine.specs.Stages.{product}
use Rattle.crc64_combine.proofs.one_turn.Given as goal

abbrev pub invariant-loop : goal.invariant-loop
invariant-loop l =
    (l.shifted < 2 ^ 64)
    × (bit_xor l.product (product (64 - l.counter) l.shifted l.terms) ≡ product 64 l.power l.register)
    × (bit_xor l.square (product (64 - l.counter) l.shifted l.own) ≡ product 64 l.power l.power)
