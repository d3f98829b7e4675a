-- A finding in words, for callers in other languages: the kind, a refusal's number, and in the values the field's
-- number, its offset (of need-more the length), what was found, what was wanted, and the kind of that. Assumes nothing.
use Rattle.std.specs.Prelude.{ℕ, ◌≡◌, [], ◌∷◌}
use Rattle.words.specs.Paper.{outcome_of}
use Rattle.words.specs.declared.outcome.Outcome.{Outcome}
use Rattle.finding.specs.declared.Field.{Field}
use Rattle.finding.specs.declared.Field.TheVariants.{FixedHeader, Signature, TypeCode, FixedChecksum, PartCount, Headers, VariableChecksum, PartSize, Whole, PartChecksum, RowCount, ValueCount, ValueHeader, Word, Blob, Length, TrailingBytes, Aggregate, Padding}
use Rattle.finding.specs.declared.Wanted.{Wanted}
use Rattle.finding.specs.declared.Wanted.TheVariants.{Number, LiveTypes, ValueTypes}
use Rattle.finding.specs.declared.Finding.{Finding}
use Rattle.finding.specs.declared.Finding.TheVariants.{Fine, More, Refused, NotPlain}

abbrev pub field_number : Field → ℕ
field_number FixedHeader = 1
field_number Signature = 2
field_number TypeCode = 3
field_number FixedChecksum = 4
field_number PartCount = 5
field_number Headers = 6
field_number VariableChecksum = 7
field_number PartSize = 8
field_number Whole = 9
field_number PartChecksum = 10
field_number RowCount = 11
field_number ValueCount = 12
field_number ValueHeader = 13
field_number Word = 14
field_number Blob = 15
field_number Length = 16
field_number TrailingBytes = 17
field_number Aggregate = 18
field_number Padding = 19

-- a number; or the types of a live connection, or those of values
abbrev pub wanted_number : Wanted → ℕ
wanted_number (Number n) = n
wanted_number LiveTypes = 0
wanted_number ValueTypes = 0

abbrev pub wanted_kind : Wanted → ℕ
wanted_kind (Number n) = 0
wanted_kind LiveTypes = 1
wanted_kind ValueTypes = 2

abbrev pub place_words : ℕ → ℕ → Field → ℕ → ℕ → Wanted → Outcome
place_words kind number field offset value wanted =
    outcome_of kind number 0 (field_number field ∷ offset ∷ value ∷ wanted_number wanted ∷ wanted_kind wanted ∷ [])

-- kinds: 0 nothing is wrong, 1 need-more, 2 refused, 3 accepted and not plain
abbrev pub words_of : Finding → Outcome
words_of Fine = outcome_of 0 0 0 []
words_of (More field n) = outcome_of 1 0 0 (field_number field ∷ n ∷ [])
words_of (Refused number field offset value wanted) = place_words 2 number field offset value wanted
words_of (NotPlain field offset value wanted) = place_words 3 0 field offset value wanted

abbrev pub NumbersField : Field → ℕ → Type 0
NumbersField field r = r ≡ field_number field

abbrev pub TellsFinding : Finding → Outcome → Type 0
TellsFinding finding r = r ≡ words_of finding
