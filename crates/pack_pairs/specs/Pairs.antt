-- The distinct pairs of a value table. Document 02, A11: "each distinct non-empty pair of offset and length is stored
-- once, in order of first use". A pair is two numbers: neither the type nor the bytes play a part. Entries are
-- numbered from 0. Assumes nothing.
use Rattle.std.specs.Prelude.{ℕ, zero, suc, ◌+◌, ◌*◌, Bool, true, false, ◌&&◌, ◌||◌, List, [], ◌∷◌, ◌++◌}
use Rattle.words.specs.Buffer.{stretch}
use Rattle.words.specs.Decide.{pick, ◌<?◌, ◌=?◌}
use Rattle.wire.specs.Layout.{entry_words, blob}
use Rattle.wire_check.specs.Writing.{type_in, bits_in, length_in, entries_in}

abbrev pub type_at : List ℕ → ℕ → ℕ
type_at values i = type_in values (entry_words * i)

-- a blob's offset, a scalar's bits
abbrev pub offset_at : List ℕ → ℕ → ℕ
offset_at values i = bits_in values (entry_words * i)

abbrev pub length_at : List ℕ → ℕ → ℕ
length_at values i = length_in values (entry_words * i)

-- a blob that is not empty
abbrev pub stored : List ℕ → ℕ → Bool
stored values i = blob (type_at values i) && 0 <? length_at values i

-- an offset and a length
pub data Pair : Type 0 where
  pair : ℕ → ℕ → Pair

abbrev pub size_of : Pair → ℕ
size_of (pair offset n) = n

abbrev pub is : Pair → Pair → Bool
is (pair offset n) (pair offset' n') = (offset =? offset') && (n =? n')

unfoldable pub has : Pair → List Pair → Bool
has p [] = false
has p (q ∷ ps) = is q p || has p ps

abbrev pub pair_at : List ℕ → ℕ → Pair
pair_at values i = pair (offset_at values i) (length_at values i)

-- the distinct pairs that the first n entries store, in the order of first use
unfoldable pub pairs : List ℕ → ℕ → List Pair
pairs values zero = []
pairs values (suc n) =
    let ps = pairs values n in
    pick (stored values n) (pick (has (pair_at values n) ps) ps (ps ++ (pair_at values n ∷ []))) ps

abbrev pub distinct : List ℕ → List Pair
distinct values = pairs values (entries_in values)

-- the sum of their lengths
unfoldable pub sizes : List Pair → ℕ
sizes [] = 0
sizes (p ∷ ps) = size_of p + sizes ps

-- the sum of the lengths before p
unfoldable pub before : Pair → List Pair → ℕ
before p [] = 0
before p (q ∷ ps) = pick (is q p) 0 (size_of q + before p ps)

-- the bytes of the area that a pair names
abbrev pub bytes_at : List ℕ → Pair → List ℕ
bytes_at area (pair offset n) = stretch area offset n

-- theirs, one behind the other
unfoldable pub bytes_of_pairs : List ℕ → List Pair → List ℕ
bytes_of_pairs area [] = []
bytes_of_pairs area (p ∷ ps) = bytes_at area p ++ bytes_of_pairs area ps
