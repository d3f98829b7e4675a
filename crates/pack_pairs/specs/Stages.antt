-- Packing by first uses, as the code goes about it: nobody has to believe it. proofs/PairLaws.antt and
-- proofs/PackingLaws.antt show that it comes to what Packing says. Assumes nothing.
use Rattle.std.specs.Prelude.{ℕ, zero, suc, ◌+◌, ◌/◌, ◌%◌, ◌<◌, ◌≤◌, ◌≡◌, Bool, true, ◌&&◌, List, [], ◌++◌, length, get_or}
use Rattle.words.specs.Decide.{pick, first, ◌<?◌, ◌=?◌}
use Rattle.words.specs.Buffer.{stretch}
use Rattle.wire.specs.Layout.{entry_words, blob}
use Rattle.wire_check.specs.Writing.{entries_in}
use Rattle.pack_pairs.specs.Pairs.{type_at, offset_at, length_at, stored}
use Rattle.pack_pairs.specs.Packing.{table}

-- the two entries have one pair of offset and length
abbrev pub same : List ℕ → ℕ → ℕ → Bool
same values j i = (offset_at values j =? offset_at values i) && (length_at values j =? length_at values i)

abbrev pub Alike : List ℕ → ℕ → ℕ → Type 0
Alike t j i = (offset_at t j ≡ offset_at t i) × (length_at t j ≡ length_at t i)

-- the entry k stores a pair that none before it stores
pub record New (values : List ℕ) (k : ℕ) : Type 0 where
  pub stores : stored values k ≡ true
  pub first_of_all : (j : ℕ) → j < k → stored values j ≡ true → Alike values j k → ⊥

-- the first entry that stores the pair of the entry i: one before it, else i itself
unfoldable pub first_use : List ℕ → ℕ → ℕ
first_use values i = first (λ (j : ℕ). stored values j && same values j i) i

-- no entry before it stores its pair
abbrev pub is_new : List ℕ → ℕ → Bool
is_new values i = stored values i && (first_use values i =? i)

-- the room that the entry i takes: the length of a new pair
abbrev pub room_of : List ℕ → ℕ → ℕ
room_of values i = pick (is_new values i) (length_at values i) 0

-- the lengths of the distinct pairs that the first n entries store
unfoldable pub room : List ℕ → ℕ → ℕ
room values zero = 0
room values (suc n) = room values n + room_of values n

-- their bytes
unfoldable pub packed_bytes : List ℕ → List ℕ → ℕ → List ℕ
packed_bytes area values zero = []
packed_bytes area values (suc n) = packed_bytes area values n ++ stretch area (offset_at values n) (room_of values n)

-- where the pair of the entry i goes: behind those first used before it
abbrev pub new_offset : List ℕ → ℕ → ℕ
new_offset values i = room values (first_use values i)

-- the fourth word of the entry i afterwards
unfoldable pub new_word : List ℕ → ℕ → ℕ
new_word values i =
    pick (blob (type_at values i)) (pick (0 <? length_at values i) (new_offset values i) 0) (offset_at values i)

abbrev pub packed_word : List ℕ → ℕ → ℕ
packed_word values k = pick ((k % entry_words) =? 3) (new_word values (k / entry_words)) (get_or values k 0)

-- the value table afterwards
unfoldable pub packed : List ℕ → List ℕ
packed values = table (packed_word values) 0 (length values)

-- the bytes that the distinct pairs take
abbrev pub needed : List ℕ → ℕ
needed values = room values (entries_in values)

-- each pair lies in the area
abbrev pub Inside : List ℕ → List ℕ → Type 0
Inside area values =
    (i : ℕ) → i < entries_in values → stored values i ≡ true → offset_at values i + length_at values i ≤ length area
