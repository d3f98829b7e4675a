-- A reader as a machine: it goes over a text byte by byte and stops at the first byte that it refuses. Assumes nothing.
use Rattle.std.specs.Prelude.{ℕ, ◌+◌, List, [], ◌∷◌}

-- to go on with this, or to refuse for that reason
pub data Move (S R : Type 0) : Type 0 where
  on : S → Move S R
  off : R → Move S R

-- states S, values A that it reads, reasons R why it refuses
pub record Machine (S A R : Type 0) : Type 0 where
  -- at a byte
  pub step : S → ℕ → Move S R
  -- at the text's end
  pub close : S → Move A R

-- how a reading ends: with a value, or at a place for a reason
pub data Ending (A R : Type 0) : Type 0 where
  read : A → Ending A R
  stopped : ℕ → R → Ending A R

-- go on where the machine does; it refuses at this place
abbrev pub behind : {S A R : Type 0} → ℕ → Move S R → (S → Ending A R) → Ending A R
behind at (on q) next = next q
behind at (off r) next = stopped at r

-- the rest of a text, from a state and a place on
unfoldable pub run : {S A R : Type 0} → Machine S A R → S → ℕ → List ℕ → Ending A R
run m q at [] = behind at (m.close q) read
run m q at (b ∷ s) = behind at (m.step q b) (λ next. run m next (at + 1) s)
