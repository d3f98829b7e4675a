-- What each public function promises, by name: the statements that the contracts cite, over the inputs and the result.
-- Assumes nothing.
use Rattle.std.specs.Prelude.{◌≡◌, Bool, List, ℕ}
use Rattle.guid.specs.declared.Guid.{Guid}
use Rattle.guid.specs.declared.Halves.{Halves}
use Rattle.guid.specs.Guid.{guid_of, words_of, guid_at, halves_of, guid_of_halves, is_null}

abbrev pub MadeOfParts : ℕ → ℕ → ℕ → ℕ → Guid → Type 0
MadeOfParts a b c d r = r ≡ guid_of a b c d

abbrev pub GivesParts : Guid → List ℕ → Type 0
GivesParts g r = r ≡ words_of g

abbrev pub MadeOfHalves : ℕ → ℕ → Guid → Type 0
MadeOfHalves first second r = r ≡ guid_of_halves first second

abbrev pub GivesHalves : Guid → Halves → Type 0
GivesHalves g r = r ≡ halves_of g

abbrev pub TellsNull : Guid → Bool → Type 0
TellsNull g r = r ≡ is_null g

abbrev pub ReadsBytes : List ℕ → ℕ → Guid → Type 0
ReadsBytes s at r = r ≡ guid_at s at
