-- The plain form as an order of checks, after document 02, A9: "For an accepted rowset that isn't plain it names the
-- first byte of the first field, or the first padding byte, that breaks that rule." The rule is document 02's A2: every
-- aggregate byte is 0 or 1, the types 2 to 6 have length word 0, a boolean's word is 0 or 1, and padding is zero.
-- Assumes nothing.
use Rattle.std.specs.Prelude.{ℕ, zero, suc, ◌+◌, not, ◌&&◌, List, [], ◌∷◌, ◌++◌, get_or}
use Prim.Native.String.{String}
use Rattle.words.specs.Answer.{accepted}
use Rattle.words.specs.Decide.{pick, Line, ◌⇒◌, ◌<?◌, ◌=?◌, ◌≠?◌}
use Rattle.words.specs.Note.{Told, ◌because◌, finds, number}
use Rattle.wire.specs.Layout.{boolean, blob, padding, values_in, type_at, aggregate_at, length_at, scalar_at, count_at, next_value, next_row}

-- accepted, but for what stands here
abbrev pub breaks : String → ℕ → ℕ → ℕ → Told
breaks field offset value wanted = accepted 0 [] because finds field offset value (number wanted)

-- n padding bytes from `at` on
unfoldable pub padding_lines : List ℕ → ℕ → ℕ → List (Line Told)
padding_lines s zero at = []
padding_lines s (suc n) at = get_or s at 0 ≠? 0 ⇒ breaks "padding" at (get_or s at 0) 0 ∷ padding_lines s n (at + 1)

-- how many padding bytes the value at `at` has
abbrev pub padding_at : List ℕ → ℕ → ℕ
padding_at s at = pick (blob (type_at s at)) (padding (length_at s at)) 0

-- the value at `at`
unfoldable pub plain_value_lines : List ℕ → ℕ → List (Line Told)
plain_value_lines s at =
    1 <? aggregate_at s at ⇒ breaks "aggregate" (at + 3) (aggregate_at s at) 1
    ∷ (not (blob (type_at s at)) && length_at s at ≠? 0) ⇒ breaks "length" (at + 4) (length_at s at) 0
    ∷ (type_at s at =? boolean && 1 <? scalar_at s at) ⇒ breaks "word" (at + 8) (scalar_at s at) 1
    ∷ padding_lines s (padding_at s at) (at + 8 + length_at s at)

-- n values from `at` on, and n rows
unfoldable pub plain_values_lines : List ℕ → ℕ → ℕ → List (Line Told)
plain_values_lines s zero at = []
plain_values_lines s (suc n) at = plain_value_lines s at ++ plain_values_lines s n (next_value s at)

unfoldable pub plain_rows_lines : List ℕ → ℕ → ℕ → List (Line Told)
plain_rows_lines s zero at = []
plain_rows_lines s (suc n) at = plain_values_lines s (values_in (count_at s at)) (at + 8) ++ plain_rows_lines s n (next_row s at)

-- the whole rowset's
abbrev pub plain_lines : List ℕ → List (Line Told)
plain_lines s = plain_rows_lines s (count_at s 0) 8
