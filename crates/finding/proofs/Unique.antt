-- One finding for each thing told: the map can be undone, the names being apart. Assumes nothing.
use Prim.Native.Nat.{ℕ}
use Prim.Native.String.{String}
use mathlib.Core.Bool.{Bool, true, false, ◌&&◌}
use mathlib.Core.List.{List, [], ◌∷◌}
use mathlib.Core.Path.{◌≡◌, refl, sym, ◌∙◌, ap}
use Rattle.words.specs.Decide.{Line, ◌⇒◌, ◌=?◌, decide}
use Rattle.words.specs.Note.{Told, number, one_of}
use Rattle.words.specs.Note as Note
use Rattle.words.specs.Statement.{OneResult}
use Rattle.words.specs.Text.{text}
use Rattle.finding.specs.Saying.{Saying, fine, waiting, refusing, breaking}
use Rattle.finding.specs.Meaning.{name_of, wanted_of, meaning, Explains}
use Rattle.words.proofs.Unique.{equal_to_one}
use Rattle.finding.specs.Words.{field_number, words_of, NumbersField, TellsFinding}
use Rattle.finding.specs.declared.Field.{Field}
use Rattle.finding.specs.declared.Field.TheVariants.{FixedHeader, Signature, TypeCode, FixedChecksum, PartCount, Headers, VariableChecksum, PartSize, Whole, PartChecksum, RowCount, ValueCount, ValueHeader, Word, Blob, Length, TrailingBytes, Aggregate, Padding}
use Rattle.finding.specs.declared.Wanted.{Wanted}
use Rattle.finding.specs.declared.Wanted.TheVariants.{Number, LiveTypes, ValueTypes}
use Rattle.finding.specs.declared.Finding.{Finding}
use Rattle.finding.specs.declared.Finding.TheVariants.{Fine, More, Refused, NotPlain}

abbrev same : List ℕ → List ℕ → Bool
same [] [] = true
same [] (y ∷ ys) = false
same (x ∷ xs) [] = false
same (x ∷ xs) (y ∷ ys) = (x =? y) && same xs ys

abbrev is : String → String → Bool
is name other = same (text name) (text other)

-- the field of a name
abbrev field_named : String → Field
field_named name =
    decide
    (is name "fixed-header" ⇒ FixedHeader
    ∷ is name "signature" ⇒ Signature
    ∷ is name "type" ⇒ TypeCode
    ∷ is name "fixed-checksum" ⇒ FixedChecksum
    ∷ is name "part-count" ⇒ PartCount
    ∷ is name "headers" ⇒ Headers
    ∷ is name "variable-checksum" ⇒ VariableChecksum
    ∷ is name "part-size" ⇒ PartSize
    ∷ is name "whole" ⇒ Whole
    ∷ is name "part-checksum" ⇒ PartChecksum
    ∷ is name "row-count" ⇒ RowCount
    ∷ is name "value-count" ⇒ ValueCount
    ∷ is name "value-header" ⇒ ValueHeader
    ∷ is name "word" ⇒ Word
    ∷ is name "blob" ⇒ Blob
    ∷ is name "length" ⇒ Length
    ∷ is name "trailing-bytes" ⇒ TrailingBytes
    ∷ is name "aggregate" ⇒ Aggregate
    ∷ [])
    Padding

field_back : (field : Field) → field_named (name_of field) ≡ field
field_back FixedHeader = refl
field_back Signature = refl
field_back TypeCode = refl
field_back FixedChecksum = refl
field_back PartCount = refl
field_back Headers = refl
field_back VariableChecksum = refl
field_back PartSize = refl
field_back Whole = refl
field_back PartChecksum = refl
field_back RowCount = refl
field_back ValueCount = refl
field_back ValueHeader = refl
field_back Word = refl
field_back Blob = refl
field_back Length = refl
field_back TrailingBytes = refl
field_back Aggregate = refl
field_back Padding = refl

abbrev wanted_back : Note.Wanted → Wanted
wanted_back (number n) = Number n
wanted_back (one_of names) = decide (is names "0-1" ⇒ LiveTypes ∷ []) ValueTypes

wanted_back_lem : (wanted : Wanted) → wanted_back (wanted_of wanted) ≡ wanted
wanted_back_lem (Number n) = refl
wanted_back_lem LiveTypes = refl
wanted_back_lem ValueTypes = refl

abbrev back : Saying → Finding
back fine = Fine
back (waiting name length) = More (field_named name) length
back (refusing code name offset found wanted) = Refused code (field_named name) offset found (wanted_back wanted)
back (breaking name offset found wanted) = NotPlain (field_named name) offset found (wanted_back wanted)

meaning_back : (r : Finding) → back (meaning r) ≡ r
meaning_back Fine = refl
meaning_back (More field length) = ap (λ (f : Field). More f length) (field_back field)
meaning_back (Refused code field offset found wanted) = rw (field_back field, wanted_back_lem wanted)
meaning_back (NotPlain field offset found wanted) = rw (field_back field, wanted_back_lem wanted)

pub meaning_injective : (r r' : Finding) → meaning r ≡ meaning r' → r ≡ r'
meaning_injective r r' e = sym (meaning_back r) ∙ ap back e ∙ meaning_back r'

-- what an order tells is told by one finding
pub explains_unique : (lines : List (Line Told)) → OneResult (Explains lines)
explains_unique lines r r' p q = meaning_injective r r' (p ∙ sym q)

pub field_number_unique : (field : Field) → OneResult (NumbersField field)
field_number_unique field = equal_to_one (field_number field)

pub outcome_unique : (finding : Finding) → OneResult (TellsFinding finding)
outcome_unique finding = equal_to_one (words_of finding)
