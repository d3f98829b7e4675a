-- What each case of the code's enums tells a person: the fields' names, and what was wanted. Assumes nothing.
use Prim.Native.String.{String}
use Rattle.std.specs.Prelude.{List, ◌≡◌}
use Rattle.words.specs.Decide.{Line}
use Rattle.words.specs.Note.{Told, number, one_of}
use Rattle.words.specs.Note as Note
use Rattle.finding.specs.Saying.{Saying, fine, waiting, refusing, breaking, explain}
use Rattle.finding.specs.declared.Field.{Field}
use Rattle.finding.specs.declared.Field.TheVariants.{FixedHeader, Signature, TypeCode, FixedChecksum, PartCount, Headers, VariableChecksum, PartSize, Whole, PartChecksum, RowCount, ValueCount, ValueHeader, Word, Blob, Length, TrailingBytes, Aggregate, Padding}
use Rattle.finding.specs.declared.Wanted.{Wanted}
use Rattle.finding.specs.declared.Wanted.TheVariants.{Number, LiveTypes, ValueTypes}
use Rattle.finding.specs.declared.Finding.{Finding}
use Rattle.finding.specs.declared.Finding.TheVariants.{Fine, More, Refused, NotPlain}

abbrev pub name_of : Field → String
name_of FixedHeader = "fixed-header"
name_of Signature = "signature"
name_of TypeCode = "type"
name_of FixedChecksum = "fixed-checksum"
name_of PartCount = "part-count"
name_of Headers = "headers"
name_of VariableChecksum = "variable-checksum"
name_of PartSize = "part-size"
name_of Whole = "whole"
name_of PartChecksum = "part-checksum"
name_of RowCount = "row-count"
name_of ValueCount = "value-count"
name_of ValueHeader = "value-header"
name_of Word = "word"
name_of Blob = "blob"
name_of Length = "length"
name_of TrailingBytes = "trailing-bytes"
name_of Aggregate = "aggregate"
name_of Padding = "padding"

-- the types that a live connection takes (document 02, A12), and those of values
abbrev pub wanted_of : Wanted → Note.Wanted
wanted_of (Number n) = number n
wanted_of LiveTypes = one_of "0-1"
wanted_of ValueTypes = one_of "2-6,16-18"

abbrev pub meaning : Finding → Saying
meaning Fine = fine
meaning (More field length) = waiting (name_of field) length
meaning (Refused code field offset found wanted) = refusing code (name_of field) offset found (wanted_of wanted)
meaning (NotPlain field offset found wanted) = breaking (name_of field) offset found (wanted_of wanted)

-- r tells what this order tells
abbrev pub Explains : List (Line Told) → Finding → Type 0
Explains lines r = meaning r ≡ explain lines
