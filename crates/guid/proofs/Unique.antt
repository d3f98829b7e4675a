-- One result for each statement: two results, or two exits of the lent buffer, that meet a public function's statement are
-- equal. Assumes nothing.
use mathlib.Core.List.{List}
use Prim.Native.Nat.{ℕ}
use Rattle.words.specs.Buffer.{fitted}
use Rattle.words.specs.Statement.{Leaves, OneResult}
use Rattle.words.proofs.Unique.{equal_to_one}
use Rattle.guid.specs.declared.Guid.{Guid}
use Rattle.guid.specs.Guid.{guid_of, words_of, wire_bytes, guid_at, halves_of, guid_of_halves, is_null}
use Rattle.guid.specs.Statement.{MadeOfParts, GivesParts, MadeOfHalves, GivesHalves, TellsNull, ReadsBytes}

pub Guid-from-parts-unique : (a b c d : ℕ) → OneResult (MadeOfParts a b c d)
Guid-from-parts-unique a b c d = equal_to_one (guid_of a b c d)

pub Guid-parts-unique : (g : Guid) → OneResult (GivesParts g)
Guid-parts-unique g = equal_to_one (words_of g)

pub Guid-from-halves-unique : (first second : ℕ) → OneResult (MadeOfHalves first second)
Guid-from-halves-unique first second = equal_to_one (guid_of_halves first second)

pub Guid-halves-unique : (g : Guid) → OneResult (GivesHalves g)
Guid-halves-unique g = equal_to_one (halves_of g)

pub Guid-is-null-unique : (g : Guid) → OneResult (TellsNull g)
Guid-is-null-unique g = equal_to_one (is_null g)

pub Guid-from-bytes-unique : (s : List ℕ) (at : ℕ) → OneResult (ReadsBytes s at)
Guid-from-bytes-unique s at = equal_to_one (guid_at s at)

pub Guid-write-unique : (g : Guid) (before : List ℕ) → OneResult (Leaves (wire_bytes g) before)
Guid-write-unique g before = equal_to_one (fitted (wire_bytes g) before)
