-- The plain form, after document 01: at most 2 ^ 30 bytes, accepted by the Rust's reader, every aggregate byte 0 or 1,
-- the four scalar types with length word 0, boolean words 0 or 1, and padding zero; and after document 02, A2, of a
-- Null's length word: "That word must be zero too." Assumes nothing.
use Rattle.std.specs.Prelude.{ℕ, zero, suc, ◌+◌, Bool, true, false, ◌&&◌, ◌||◌, List, [], length, get_or}
use Rattle.words.specs.Answer.{Answer, accepted, more, refused}
use Rattle.words.specs.Decide.{pick, decide, ◌<?◌, ◌=?◌, ◌≠?◌}
use Rattle.words.specs.Note.{answers}
use Rattle.wire.specs.Layout.{max_size, blob, boolean, padding, values_in, type_at, aggregate_at, length_at, scalar_at, count_at, next_value, next_row}
use Rattle.wire_read.specs.Reading.{input_lines}

-- n bytes of 0 from `at` on
unfoldable pub zeros : List ℕ → ℕ → ℕ → Bool
zeros s zero at = true
zeros s (suc n) at =
    let others = zeros s n (at + 1) in
    pick (get_or s at 0 =? 0) others false

-- the length word is 0, and a boolean's word 0 or 1
abbrev pub plain_words : List ℕ → ℕ → Bool
plain_words s at = length_at s at =? 0 && (type_at s at ≠? boolean || scalar_at s at <? 2)

abbrev pub plain_blob : List ℕ → ℕ → Bool
plain_blob s at = zeros s (padding (length_at s at)) (at + 8 + length_at s at)

unfoldable pub plain_value : List ℕ → ℕ → Bool
plain_value s at = aggregate_at s at <? 2 && pick (blob (type_at s at)) (plain_blob s at) (plain_words s at)

unfoldable pub plain_values : List ℕ → ℕ → ℕ → Bool
plain_values s zero at = true
plain_values s (suc n) at =
    let others = plain_values s n (next_value s at) in
    pick (plain_value s at) others false

unfoldable pub plain_rows : List ℕ → ℕ → ℕ → Bool
plain_rows s zero at = true
plain_rows s (suc n) at =
    let others = plain_rows s n (next_row s at) in
    pick (plain_values s (values_in (count_at s at)) (at + 8)) others false

abbrev pub is_accepted : Answer → Bool
is_accepted (accepted consumed fields) = true
is_accepted more = false
is_accepted (refused number values consumed) = false

-- what the Rust accepts: all checks but those of the room
unfoldable pub accepts : List ℕ → Bool
accepts s = is_accepted (decide (answers (input_lines s)) (accepted 0 []))

unfoldable pub plain : List ℕ → Bool
plain s =
    let values = plain_rows s (count_at s 0) 8 in
    pick (max_size <? length s) false (pick (accepts s) values false)
