-- One result for each statement: two results that meet a public function's statement are equal. Assumes nothing.
use Prim.Native.Nat.{ℕ}
use Rattle.words.specs.Statement.{OneResult}
use Rattle.words.proofs.Unique.{equal_to_one}
use Rattle.text_form.specs.Form.{letter_of, escaped}
use Rattle.text_form.specs.Walk.{type_of, small_value, capital_value}
use Rattle.text_spell.specs.Statement.{IsLetter, IsType, TellsEscaped, IsSmallValue, IsCapitalValue}

pub letter_unique : (type : ℕ) → OneResult (IsLetter type)
letter_unique type = equal_to_one (letter_of type)

pub type_of_unique : (byte : ℕ) → OneResult (IsType byte)
type_of_unique byte = equal_to_one (type_of byte)

pub is_escaped_unique : (byte : ℕ) → OneResult (TellsEscaped byte)
is_escaped_unique byte = equal_to_one (escaped byte)

pub small_value_unique : (byte : ℕ) → OneResult (IsSmallValue byte)
small_value_unique byte = equal_to_one (small_value byte)

pub capital_value_unique : (byte : ℕ) → OneResult (IsCapitalValue byte)
capital_value_unique byte = equal_to_one (capital_value byte)
