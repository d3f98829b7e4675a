-- Reading, from document 01: "Order: under 36 bytes, need-more; 1; 2; 5; 3 if n exceeds the smaller of 2^28 and the
-- ceiling; without a variable header, accept 36 bytes whatever the byte limit; 8 if 44 + 12n exceeds it; need-more; 6;
-- 4 at the first size above 2^30 that is not null; 8 for the whole length; need-more; 7 at the first failing part; 17."
-- Document 02, A12: "24 RetiredType (type), in reading directly after 2". Beside each answer stands what it tells a
-- person (document 02, A9). Assumes nothing.
use Rattle.std.specs.Prelude.{ℕ, ◌+◌, min, Bool, not, ◌&&◌, List, [], ◌∷◌, ◌++◌, length}
use Rattle.words.specs.Decide.{◌≠?◌, ◌<?◌, Line, ◌⇒◌, decide, first}
use Rattle.words.specs.Answer.{Answer, accepted, more, refused, refuse}
use Rattle.words.specs.Note.{Told, ◌because◌, waits, finds, plainly, number, one_of, answers}
use Rattle.words.specs.Paper.{room_number}
use Rattle.words.specs.declared.outcome.Room.TheVariants.{Parts}
use Rattle.crc64.specs.Polynomial.{checksum}
use Rattle.packet.specs.Layout.{packet_signature, largest_part, most_parts, last_type, type_at, count_at, fixed_fields_size, fixed_header_size, size_place, sum_place, variable_sum_place, has_variable_header, headers, signature, type, count, fixed_sum, fixed_fields, fields, size, is_null, part_sum, variable, variable_sum, start, whole, part}
use Rattle.packet.specs.Entries.{room as room_of}
use Rattle.packet.specs.declared.Mode.{Mode}
use Rattle.packet.specs.Mode.{is_retired}

-- what a caller allows: every type or only those that are not retired, the bytes of a packet, its parts, and the
-- entries of the table that it lends
pub record Limits : Type 0 where
  pub mode : Mode
  pub bytes : ℕ
  pub parts : ℕ
  pub room : ℕ

-- the limits of a call that lends this table
abbrev pub limited : Mode → ℕ → ℕ → List ℕ → Limits
limited mode bytes ceiling table = record { mode = mode; bytes = bytes; parts = ceiling; room = room_of table }

-- a stretch fails the checksum stored for it: a word of 0 is never verified
abbrev pub fails : ℕ → List ℕ → Bool
fails stored bytes = stored ≠? 0 && stored ≠? checksum bytes

module _ (s : List ℕ) where
  abbrev pub too_large : ℕ → Bool
  too_large i = not (is_null s i) && largest_part <? size s i

  -- the fixed header
  unfoldable pub fixed_lines : Mode → List (Line Told)
  fixed_lines mode =
      length s <? fixed_header_size ⇒ more because waits "fixed-header" fixed_header_size
      ∷ signature s ≠? packet_signature ⇒ refuse 1 (signature s ∷ [])
      because finds "signature" 0 (signature s) (number packet_signature)
      ∷ last_type <? type s ⇒ refuse 2 (type s ∷ []) because finds "type" type_at (type s) (number last_type)
      ∷ is_retired mode (type s) ⇒ refuse 24 (type s ∷ []) because finds "type" type_at (type s) (one_of "0-1")
      ∷ fails (fixed_sum s) (fixed_fields s) ⇒ refuse 5 (fixed_sum s ∷ checksum (fixed_fields s) ∷ [])
      because finds "fixed-checksum" fixed_fields_size (fixed_sum s) (number (checksum (fixed_fields s)))
      ∷ []

  module _ (n : ℕ) where
    -- a null part's checksum word is never looked at
    abbrev pub part_fails : ℕ → Bool
    part_fails i = not (is_null s i) && fails (part_sum s n i) (part s n i)

    abbrev pub first_too_large : ℕ
    first_too_large = first too_large n

    abbrev pub first_failing : ℕ
    first_failing = first part_fails n

    -- how many parts there may be, and the packet that has none and no variable header
    unfoldable pub count_lines : ℕ → List (Line Told)
    count_lines ceiling =
        min most_parts ceiling <? n ⇒ refuse 3 (n ∷ [])
        because finds "part-count" count_at n (number (min most_parts ceiling))
        ∷ not (has_variable_header (type s) n) ⇒ accepted fixed_header_size (fields s) because plainly
        ∷ []

    -- the variable header
    unfoldable pub variable_lines : ℕ → List (Line Told)
    variable_lines limit =
        limit <? headers n ⇒ refuse 8 (headers n ∷ limit ∷ []) because finds "headers" 0 (headers n) (number limit)
        ∷ length s <? headers n ⇒ more because waits "headers" (headers n)
        ∷ fails (variable_sum s n) (variable s n) ⇒ refuse 6 (variable_sum s n ∷ checksum (variable s n) ∷ [])
        because finds "variable-checksum" (variable_sum_place n) (variable_sum s n) (number (checksum (variable s n)))
        ∷ []

    -- the sizes
    unfoldable pub size_lines : ℕ → List (Line Told)
    size_lines limit =
        first_too_large <? n ⇒ refuse 4 (first_too_large ∷ size s first_too_large ∷ [])
        because finds "part-size" (size_place first_too_large) (size s first_too_large) (number largest_part)
        ∷ limit <? whole s n ⇒ refuse 8 (whole s n ∷ limit ∷ []) because finds "whole" 0 (whole s n) (number limit)
        ∷ length s <? whole s n ⇒ more because waits "whole" (whole s n)
        ∷ []

    -- the parts: the checksum word of the first that fails, and its checksum
    abbrev failing_stored : ℕ
    failing_stored = part_sum s n first_failing

    abbrev failing_computed : ℕ
    failing_computed = checksum (part s n first_failing)

    unfoldable pub part_lines : List (Line Told)
    part_lines =
        first_failing <? n
        ⇒ refused 7 (first_failing ∷ failing_stored ∷ failing_computed ∷ []) (start s n (first_failing + 1))
        because finds "part-checksum" (sum_place n first_failing) failing_stored (number failing_computed)
        ∷ []

-- the lent table
unfoldable pub room_lines : ℕ → ℕ → List (Line Told)
room_lines n room = room <? n ⇒ refuse 17 (room_number Parts ∷ n ∷ room ∷ []) because plainly ∷ []

-- of an input s with n parts
unfoldable pub order : List ℕ → ℕ → Limits → List (Line Told)
order s n limits =
    fixed_lines s limits.mode ++ count_lines s n limits.parts ++ variable_lines s n limits.bytes
    ++ size_lines s n limits.bytes
    ++ part_lines s n
    ++ room_lines n limits.room

-- the answer to an input s
unfoldable pub reading : List ℕ → Limits → Answer
reading s limits = decide (answers (order s (count s) limits)) (accepted (whole s (count s)) (fields s))
