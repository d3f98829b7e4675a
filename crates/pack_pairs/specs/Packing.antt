-- What packing makes of a value table and of a second area, and the order of its refusals. Document 02, A11: "values
-- keep their order and content .. and nothing else is kept. Empty blobs get offset 0. The room needed is the sum of
-- the distinct pairs' lengths. Refusals: 18 (rules 1 and 3), then 17 with that sum, at most 2^64-1." Assumes nothing.
use Rattle.std.specs.Prelude.{ℕ, zero, suc, ◌+◌, ◌/◌, ◌%◌, List, [], ◌∷◌, length, get_or}
use Rattle.words.specs.Answer.{Answer, accepted}
use Rattle.words.specs.Decide.{Line, ◌⇒◌, decide, pick, ◌<?◌, ◌=?◌}
use Rattle.words.specs.Paper.{no_room}
use Rattle.words.specs.declared.outcome.Room.TheVariants.{Output}
use Rattle.wire.specs.Layout.{entry_words, blob}
use Rattle.wire_check.specs.Writing.{not_whole, bad_value}
use Rattle.pack_pairs.specs.Pairs.{type_at, offset_at, length_at, pair_at, distinct, sizes, before, bytes_of_pairs}

-- the fourth word of the entry i afterwards: where a blob's pair goes, behind those first used before it, 0 where it
-- is empty; the bits of any other value
unfoldable pub placed : List ℕ → ℕ → ℕ
placed values i =
    pick (blob (type_at values i)) (pick (0 <? length_at values i) (before (pair_at values i) (distinct values)) 0)
    (offset_at values i)

-- the list of f at n numbers from k on
unfoldable pub table : (ℕ → ℕ) → ℕ → ℕ → List ℕ
table f k zero = []
table f k (suc n) = f k ∷ table f (k + 1) n

-- the value table: of each entry the fourth word is placed, and the others stay
abbrev pub placed_word : List ℕ → ℕ → ℕ
placed_word values k = pick ((k % entry_words) =? 3) (placed values (k / entry_words)) (get_or values k 0)

unfoldable pub packed_table : List ℕ → List ℕ
packed_table values = table (placed_word values) 0 (length values)

-- the bytes that fill the front of the second area
unfoldable pub packed_area : List ℕ → List ℕ → List ℕ
packed_area area values = bytes_of_pairs area (distinct values)

-- how many they are
unfoldable pub needed_bytes : List ℕ → ℕ
needed_bytes values = sizes (distinct values)

-- at most 2 ^ 64 - 1
abbrev pub capped : ℕ → ℕ
capped n = pick (0xffff_ffff_ffff_ffff <? n) 0xffff_ffff_ffff_ffff n

-- 17: where the true sum is more than the second area has
abbrev pub too_small : List ℕ → ℕ → Line Answer
too_small values room = room <? needed_bytes values ⇒ no_room Output (capped (needed_bytes values)) room

-- what packing into an area of so many bytes answers: how many are filled
unfoldable pub packing : List ℕ → List ℕ → ℕ → Answer
packing area values room =
    decide (not_whole values ∷ bad_value area values ∷ too_small values room ∷ []) (accepted (needed_bytes values) [])
