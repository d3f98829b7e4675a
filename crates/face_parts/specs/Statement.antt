-- What each exported function on parts promises, by name: its outcome is that of the answer that the library's
-- definitions give. Assumes nothing.
use Rattle.std.specs.Prelude.{ℕ, ◌≡◌, Bool, List, [], ◌∷◌, length}
use Rattle.std.specs.Int.Bits.{bit_and}
use Rattle.words.specs.Answer.{Answer, accepted, refuse}
use Rattle.words.specs.Decide.{pick, decide, ◌⇒◌, ◌<?◌, ◌=?◌}
use Rattle.words.specs.Paper.{Tells}
use Rattle.words.specs.declared.outcome.Outcome.{Outcome}
use Rattle.packet.specs.Layout.{last_type}
use Rattle.packet.specs.Entries.{lent_at, offset_at}
use Rattle.packet_mode.specs.Statement.{mode_of}
use Rattle.packet_check.specs.Checks.{validating, sizing}

-- an unknown type is refused by 2, before any other check
abbrev pub unknown_type : ℕ → Answer
unknown_type type = refuse 2 (type ∷ [])

abbrev pub typed : ℕ → Answer → Answer
typed type answer = decide (last_type <? type ⇒ unknown_type type ∷ []) answer

abbrev pub Measures : ℕ → ℕ → List ℕ → List ℕ → Outcome → Type 0
Measures mode type area table r = Tells (typed type (sizing (mode_of mode) type area table)) r

abbrev pub Validates : ℕ → ℕ → List ℕ → List ℕ → Outcome → Type 0
Validates mode type area table r = Tells (typed type (validating (mode_of mode) type area table)) r

-- where part i lies: the offset and the length of its stretch, the offset 0 where that is empty
abbrev pub lent_from : List ℕ → List ℕ → ℕ → ℕ
lent_from input table i = pick (length (lent_at input table i) =? 0) 0 (offset_at table i)

abbrev pub LendsPart : List ℕ → List ℕ → ℕ → Outcome → Type 0
LendsPart input table i r = Tells (accepted 0 (lent_from input table i ∷ length (lent_at input table i) ∷ [])) r

abbrev pub Contains : ℕ → ℕ → Bool → Type 0
Contains flags other r = r ≡ (bit_and flags other =? other)
