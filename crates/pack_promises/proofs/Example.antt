-- The example holds: it is computed from the definitions. Assumes nothing.
use mathlib.Core.Path.{refl}
use Rattle.words.specs.Decide as Decide
use Rattle.wire_check.specs.Writing as Writing
use Rattle.pack_pairs.specs.Pairs as Pairs
use Rattle.pack_pairs.specs.Packing as Packing
use Rattle.pack_promises.specs.Packing.{PackExample}

pub pack_example : PackExample
unfolding Decide.first_from Writing.bad Writing.first_bad Pairs.has Pairs.pairs Pairs.sizes Pairs.before Pairs.bytes_of_pairs Packing.placed Packing.table Packing.packed_table Packing.packed_area Packing.needed_bytes Packing.packing
pack_example = (refl, refl, refl, refl)
