-- The reading of a text from a place and a state on, and what stands behind its pieces: what both walks' laws speak of.
-- Nobody has to believe it. Assumes nothing.
use Rattle.std.specs.Prelude.{ℕ, ◌≤◌, ◌<◌, Bool, true, false, not, ◌&&◌, ◌≡◌, List, [], ◌∷◌, ◌++◌, ◌⊎◌, length, get_or, drop}
use Rattle.std.proofs.Common.{inl, inr}
use Rattle.words.specs.Answer.{Answer}
use Rattle.words.specs.Decide.{pick, ◌<?◌}
use Rattle.places.specs.Machine.{Ending, stopped, run}
use Rattle.wire.specs.Layout.{null_type, scalar, blob}
use Rattle.wire.specs.Content.{Content, nothing, word, bytes, Cell, Row, values}
use Rattle.text_form.specs.Form.{tab, line_feed, aggregate_sign}
use Rattle.text_form.specs.Walk.{Phase, fresh, digits, full, State, at, cell_of}
use Rattle.text_form.specs.Limits.{walk_within}

abbrev pub is_digit : ℕ → Bool
is_digit b = not (b <? 48) && b <? 58

abbrev pub Reading : Type 0
Reading = Ending (List Row) (Unit {0} ⊎ Answer)

-- the reading from the place i on, in the state q
abbrev pub from : List ℕ → ℕ → State → Reading
from s i q = run walk_within q i (drop i s)

-- a reading that stops with 19 at this place, or somewhere by a limit
abbrev pub bad_at : ℕ → Reading
bad_at place = stopped place (inl tt)

-- behind the letter of a type
abbrev pub opened : ℕ → ℕ → ℕ → Phase
opened id aggregate type =
    pick (blob type) (full (cell_of id aggregate type (bytes [])))
    (pick (scalar type) (digits id aggregate type 15 0) (full (cell_of id aggregate null_type nothing)))

-- no aggregate sign, unless there was one
abbrev pub Signless : List ℕ → ℕ → ℕ → Type 0
Signless s i aggregate = get_or s i 0 ≡ aggregate_sign → aggregate ≡ 0 → ⊥

-- a tab or a line feed stands there
abbrev pub EndsThere : List ℕ → ℕ → Type 0
EndsThere s i = (i < length s) × ((get_or s i 0 ≡ tab) ⊎ (get_or s i 0 ≡ line_feed))

-- nothing but the end fits behind it
abbrev pub Closed : Content → Type 0
Closed nothing = Unit {0}
Closed (word w) = Unit {0}
Closed (bytes s) = ⊥

abbrev pub Settled : List ℕ → ℕ → Cell → Type 0
Settled s i c = Closed c.content ⊎ EndsThere s i

-- behind the byte that ends a value
abbrev pub behind_value : Bool → List Row → List Cell → Cell → State
behind_value true rows cells c = at (rows ++ values (cells ++ c ∷ []) ∷ []) [] fresh
behind_value false rows cells c = at rows (cells ++ c ∷ []) fresh
