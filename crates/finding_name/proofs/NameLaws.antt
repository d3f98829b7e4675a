-- How long a field's name is. Assumes nothing.
use Prim.Native.Nat.{◌≤◌}
use native.Mathlib.Omega.{arith}
use lib.ListN.{length}
use Rattle.words.specs.Text.{text}
use Rattle.finding.specs.Meaning.{name_of}
use Rattle.finding.specs.declared.Field.{Field}
use Rattle.finding.specs.declared.Field.TheVariants.{FixedHeader, Signature, TypeCode, FixedChecksum, PartCount, Headers, VariableChecksum, PartSize, Whole, PartChecksum, RowCount, ValueCount, ValueHeader, Word, Blob, Length, TrailingBytes, Aggregate, Padding}

pub name_short : (field : Field) → length (text (name_of field)) ≤ 17
name_short FixedHeader = omega arith
name_short Signature = omega arith
name_short TypeCode = omega arith
name_short FixedChecksum = omega arith
name_short PartCount = omega arith
name_short Headers = omega arith
name_short VariableChecksum = omega arith
name_short PartSize = omega arith
name_short Whole = omega arith
name_short PartChecksum = omega arith
name_short RowCount = omega arith
name_short ValueCount = omega arith
name_short ValueHeader = omega arith
name_short Word = omega arith
name_short Blob = omega arith
name_short Length = omega arith
name_short TrailingBytes = omega arith
name_short Aggregate = omega arith
name_short Padding = omega arith
