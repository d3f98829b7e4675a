-- What each public function promises, by name. (The map of answers promises words' `Tells` of `paper_value`.) Assumes
-- nothing.
use Rattle.std.specs.Prelude.{ℕ, ◌≤◌, ◌≡◌, List, length, Result, Ok, Err}
use Rattle.words.specs.Answer.{Answer}
use Rattle.words.specs.Decide.{decide}
use Rattle.words.specs.Statement.{Means}
use Rattle.wire.specs.Layout.{next_value}
use Rattle.wire_value.specs.ValueOrder.{value_order, value_reading}
use Rattle.wire.specs.Paper.{paper}
use Rattle.wire_value.specs.Paper.{paper_value}
use Rattle.wire_value.specs.ValueOf.{header_at, value_at}
use Rattle.wire_value.specs.declared.value.Header.{Header}
use Rattle.wire_value.specs.declared.value.UnversionedValue.{UnversionedValue}
use Rattle.wire_value.specs.declared.value.Checked.{Checked}
use Rattle.wire.specs.declared.error.WireError.{WireError}

-- the header of the value at `at`
abbrev pub ReadsHeader : List ℕ → ℕ → Header → Type 0
ReadsHeader s at r = r ≡ header_at s at

-- The checks of the value at `at`. Where all of them pass, what follows decides, and the header and the next offset are
-- given; else the refusal, whatever follows.
abbrev pub ChecksValue : List ℕ → ℕ → Result Checked WireError → Type 0
ChecksValue s at (Ok v) =
    (v.header ≡ header_at s at) × (v.next ≡ next_value s at) × ((rest : Answer) → decide (value_order s at) rest ≡ rest)
ChecksValue s at (Err refusal) = (rest : Answer) → decide (value_order s at) rest ≡ paper refusal

-- a value whose checks pass lies within the input
abbrev pub Lies : List ℕ → Result Checked WireError → Type 0
Lies s (Ok v) = v.next ≤ length s
Lies s (Err refusal) = Unit {0}

-- the value that is got
abbrev pub Carries : UnversionedValue → Result UnversionedValue WireError → Type 0
Carries v (Ok u) = u ≡ v
Carries v (Err refusal) = Unit {0}

-- The value at `at`: document 01's answer, and the Rust's value
abbrev pub ReadsValue : List ℕ → ℕ → Result UnversionedValue WireError → Type 0
ReadsValue s at r = Means paper_value (value_reading s at) r × Carries (value_at s at) r
