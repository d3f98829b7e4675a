-- A number in hex and in decimal, and what each public function promises, by name. Assumes nothing.
use Rattle.std.specs.Prelude.{ℕ, List, ◌≡◌, length}
use Rattle.words.specs.Buffer.{fitted}
use Rattle.words.specs.Text.{spelled, digit_of}

-- a word of 32 bits has at most 8 hex digits
abbrev pub hex : ℕ → List ℕ
hex w = spelled 16 8 w

-- a number of 64 bits has at most 20 decimal digits
abbrev pub decimal : ℕ → List ℕ
decimal n = spelled 10 20 n

-- r is how many digits they are
abbrev pub Sizes : List ℕ → ℕ → Type 0
Sizes digits r = r ≡ length digits

-- and they stand over the front of the part that held `before`, where it has the room
abbrev pub Writes : List ℕ → List ℕ → ℕ → List ℕ → Type 0
Writes digits before r after = (r ≡ length digits) × (after ≡ fitted digits before)

abbrev pub ValueOf : ℕ → ℕ → Type 0
ValueOf byte r = r ≡ digit_of byte
