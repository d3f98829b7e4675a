-- The lent part table, from document 01: "Part: two u64 words, offset and length; null is offset 0, length 2^64-1.
-- Offsets count from the start of the read input, or of the byte area when writing." Document 02, A6: "The part table
-- gets a third word, the checksum word as stored in the packet, null parts included. The writer doesn't read it."
-- Assumes nothing.
use Rattle.std.specs.Prelude.{ℕ, zero, suc, ◌+◌, ◌*◌, ◌/◌, ◌^◌, ◌-◌, Bool, not, ◌&&◌, List, [], ◌∷◌, ◌++◌, length, get_or}
use Rattle.words.specs.Decide.{pick, ◌=?◌, ◌<?◌}
use Rattle.words.specs.Buffer.{stretch}
use Rattle.packet.specs.Layout as Layout
use Rattle.packet.specs.Layout.{largest_part, size, start, count, part_sum}

-- the words of an entry
abbrev pub entry_words : ℕ
entry_words = 3

abbrev pub null_length : ℕ
null_length = 2 ^ 64 - 1

-- the whole entries of a table: its room
abbrev pub room : List ℕ → ℕ
room table = length table / entry_words

-- of an entry's offset and length
abbrev pub is_null : ℕ → ℕ → Bool
is_null offset size = offset =? 0 && size =? null_length

-- "a stretch outside the area (offset plus length, unwrapped, above its size)"
abbrev pub is_outside : ℕ → ℕ → ℕ → Bool
is_outside given offset size = not (is_null offset size) && given <? (offset + size)

abbrev pub is_too_large : ℕ → ℕ → Bool
is_too_large offset size = not (is_null offset size) && largest_part <? size

-- the bytes that its part takes
abbrev pub taken : ℕ → ℕ → ℕ
taken offset size = pick (is_null offset size) 0 size

module _ (table : List ℕ) (i : ℕ) where
  -- the words of entry i
  abbrev pub offset_at : ℕ
  offset_at = get_or table (entry_words * i) 0

  abbrev pub size_at : ℕ
  size_at = get_or table (entry_words * i + 1) 0

  -- the checksum word that was stored for it, 0 where it was not guarded
  abbrev pub sum_at : ℕ
  sum_at = get_or table (entry_words * i + 2) 0

  abbrev pub null_at : Bool
  null_at = is_null offset_at size_at

  abbrev pub too_large_at : Bool
  too_large_at = is_too_large offset_at size_at

-- over an area, or a read input
module _ (area table : List ℕ) (i : ℕ) where
  abbrev pub outside_at : Bool
  outside_at = is_outside (length area) (offset_at table i) (size_at table i)

  abbrev pub stretch_at : List ℕ
  stretch_at = stretch area (offset_at table i) (size_at table i)

  -- "Asked for part i, the library lends back exactly that stretch of the input; a null part, or an i or entry outside
  -- the table or input, gives the empty stretch at the front."
  unfoldable pub is_lent : Bool
  is_lent = i <? room table && not (null_at table i) && not outside_at

  abbrev pub lent_at : List ℕ
  lent_at = pick is_lent stretch_at []

  -- where that stretch begins in the input
  abbrev pub lent_from : ℕ
  lent_from = pick is_lent (offset_at table i) 0

-- "Reading fills whole entries from the front": the entry of part i of the n of an input s
abbrev pub entry : List ℕ → ℕ → ℕ → List ℕ
entry s n i =
    pick (Layout.is_null s i) (0 ∷ null_length ∷ part_sum s n i ∷ []) (start s n i ∷ size s i ∷ part_sum s n i ∷ [])

-- the entries of the k parts before part i + k, from part i on
unfoldable pub entries_from : List ℕ → ℕ → ℕ → ℕ → List ℕ
entries_from s n i zero = []
entries_from s n i (suc k) = entry s n i ++ entries_from s n (i + 1) k

abbrev pub entries : List ℕ → List ℕ
entries s = entries_from s (count s) 0 (count s)
