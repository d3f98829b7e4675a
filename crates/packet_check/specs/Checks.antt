-- What the writer checks, from document 01: "Writing order: 18, 3, 4, 17", and document 02, A12: "24 RetiredType
-- (type), [..] in writing directly after 18". 17 is the writer's own; `validate` and `encoded_size` answer by the
-- others. 18 carries a rule and a position: rule 1, the words are not whole entries, whose number is the position; rule
-- 3, the first entry that names a stretch outside the area. 3 and 4 carry at most 2^32-1. Assumes nothing.
use Rattle.std.specs.Prelude.{ℕ, ◌%◌, ◌^◌, ◌-◌, min, List, [], ◌∷◌, ◌++◌, length}
use Rattle.words.specs.Decide.{◌≠?◌, ◌<?◌, Line, ◌⇒◌, decide, first}
use Rattle.words.specs.Answer.{Answer, accepted, refuse}
use Rattle.packet.specs.Layout.{most_parts}
use Rattle.packet.specs.Entries.{entry_words, room, size_at, too_large_at, outside_at}
use Rattle.packet.specs.Wire.{packet_size, parts_of}
use Rattle.packet.specs.declared.Mode.{Mode}
use Rattle.packet.specs.Mode.{is_retired}

abbrev pub capped : ℕ → ℕ
capped n = min n (2 ^ 32 - 1)

abbrev pub first_too_large : List ℕ → ℕ
first_too_large table = first (too_large_at table) (room table)

module _ (area table : List ℕ) where
  abbrev pub first_outside : ℕ
  first_outside = first (outside_at area table) (room table)

  -- 18
  unfoldable pub table_lines : List (Line Answer)
  table_lines =
      (length table % entry_words) ≠? 0 ⇒ refuse 18 (1 ∷ room table ∷ [])
      ∷ first_outside <? room table ⇒ refuse 18 (3 ∷ first_outside ∷ [])
      ∷ []

-- 24
unfoldable pub retired_lines : Mode → ℕ → List (Line Answer)
retired_lines mode type = is_retired mode type ⇒ refuse 24 (type ∷ []) ∷ []

-- 3 and 4
unfoldable pub limit_lines : List ℕ → List (Line Answer)
limit_lines table =
    most_parts <? room table ⇒ refuse 3 (capped (room table) ∷ [])
    ∷ first_too_large table <? room table
    ⇒ refuse 4 (first_too_large table ∷ capped (size_at table (first_too_large table)) ∷ [])
    ∷ []

-- of a packet of this type with the parts that a table names in an area
module _ (mode : Mode) (type : ℕ) (area table : List ℕ) where
  unfoldable pub checks : List (Line Answer)
  checks = table_lines area table ++ retired_lines mode type ++ limit_lines table

  unfoldable pub validating : Answer
  validating = decide checks (accepted 0 [])

  unfoldable pub sizing : Answer
  sizing = decide checks (accepted (packet_size type (parts_of area table)) [])
