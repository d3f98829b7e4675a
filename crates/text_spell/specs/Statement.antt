-- What each function promises, by name. Assumes nothing.
use Rattle.std.specs.Prelude.{ℕ, Bool, ◌≡◌}
use Rattle.text_form.specs.Form.{letter_of, escaped}
use Rattle.text_form.specs.Walk.{type_of, small_value, capital_value}

-- the letter of a type
abbrev pub IsLetter : ℕ → ℕ → Type 0
IsLetter type r = r ≡ letter_of type

-- the type of a letter
abbrev pub IsType : ℕ → ℕ → Type 0
IsType byte r = r ≡ type_of byte

-- whether a blob's byte stands escaped
abbrev pub TellsEscaped : ℕ → Bool → Type 0
TellsEscaped byte r = r ≡ escaped byte

-- the value of a hex digit whose letters are small, or capital
abbrev pub IsSmallValue : ℕ → ℕ → Type 0
IsSmallValue byte r = r ≡ small_value byte

abbrev pub IsCapitalValue : ℕ → ℕ → Type 0
IsCapitalValue byte r = r ≡ capital_value byte
