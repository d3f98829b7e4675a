-- The sum so far is that of the entries before i.
use Rattle.std.proofs.Common.{◌≡◌}
use Rattle.pack_pairs.specs.Packing.{capped}
use Rattle.pack_pairs.specs.Stages.{room}
use Rattle.pack_plain.proofs.room_before.Given as goal

abbrev pub invariant-loop-i : goal.invariant-loop-i
invariant-loop-i l = l.sum ≡ capped (room l.values l.i)
