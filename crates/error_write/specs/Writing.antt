-- The order in which errors are written from lent tables: 18, then 17. The size has the same checks but 17. Assumes
-- nothing.
use Rattle.std.specs.Prelude.{ℕ, List, [], ◌∷◌, length}
use Rattle.words.specs.Answer.{Answer, accepted}
use Rattle.words.specs.Decide.{pick, decide, ◌<?◌}
use Rattle.words.specs.Paper.{room_line}
use Rattle.words.specs.declared.outcome.Room.TheVariants.{Output}
use Rattle.error_table.specs.Table.{table_order}
use Rattle.error_write.specs.Written.{error_bytes}

-- "at most 2 ^ 64 - 1"
abbrev pub most_bytes : ℕ
most_bytes = 0xffff_ffff_ffff_ffff

unfoldable pub capped : ℕ → ℕ
capped n = pick (most_bytes <? n) most_bytes n

abbrev pub needed : List ℕ → List ℕ → List ℕ → ℕ
needed area errors attributes = capped (length (error_bytes area errors attributes))

-- what `error_size` answers: nothing is written, and the size is told
unfoldable pub measuring : List ℕ → List ℕ → List ℕ → Answer
measuring area errors attributes =
    let size = accepted (needed area errors attributes) [] in
    decide (table_order area errors attributes) size

-- what writing into an output of so many bytes answers: how many are written
unfoldable pub writing : List ℕ → List ℕ → List ℕ → ℕ → Answer
writing area errors attributes room =
    let bytes =
    decide (room_line Output (needed area errors attributes) room ∷ []) (accepted (needed area errors attributes) []) in
    decide (table_order area errors attributes) bytes
