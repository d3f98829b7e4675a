-- One result for each statement. Assumes nothing.
use mathlib.Core.Path.{sym, ◌∙◌}
use mathlib.Core.List.{List}
use Prim.Native.Nat.{ℕ}
use lib.ListN.{length}
use Rattle.words.specs.Text.{digit_of}
use Rattle.words.specs.Statement.{OneResult}
use Rattle.words.proofs.Unique.{equal_to_one}
use Rattle.numerals.specs.Statement.{hex, decimal, Sizes, Writes, ValueOf}

pub hex_size_unique : (word : ℕ) → OneResult (Sizes (hex word))
hex_size_unique word = equal_to_one (length (hex word))

pub decimal_size_unique : (number : ℕ) → OneResult (Sizes (decimal number))
decimal_size_unique number = equal_to_one (length (decimal number))

-- the count and the part at exit
writes_one : (digits before : List ℕ) → OneResult (λ (x : ℕ × List ℕ). Writes digits before x.0 x.1)
writes_one digits before x x' p q = λ i. ((p.0 ∙ sym q.0) i, (p.1 ∙ sym q.1) i)

pub write_hex_unique : (word : ℕ) (before : List ℕ) → OneResult (λ (x : ℕ × List ℕ). Writes (hex word) before x.0 x.1)
write_hex_unique word before = writes_one (hex word) before

pub write_decimal_unique : (number : ℕ) (before : List ℕ) → OneResult (λ (x : ℕ × List ℕ). Writes (decimal number) before x.0 x.1)
write_decimal_unique number before = writes_one (decimal number) before

pub digit_value_unique : (byte : ℕ) → OneResult (ValueOf byte)
digit_value_unique byte = equal_to_one (digit_of byte)
